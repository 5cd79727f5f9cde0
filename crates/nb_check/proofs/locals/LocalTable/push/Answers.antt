use Rattle.std.proofs.Common.{◌≡◌, ℕ, List, Bool, true, false, not, Option, Some, None, length, is_some, is_none, refl, sym, ap, ◌∙◌, true≢false}
use Rattle.std.specs.FinMap as map
use Rattle.nb_base.specs.Orders.{ByName}
use Rattle.nb_script.specs.declared.item.FieldKind.{FieldKind}
use Rattle.nb_check.specs.Kinds.{local_in}
use Rattle.nb_check.specs.Places.{place_of, place_if}
use Rattle.nb_check.specs.declared.sight.Local.{Local}
use Rattle.nb_check.proofs.PlaceLaws.{still, grown}
use Rattle.nb_check.proofs.locals.LocalTable.push.Goals as goal

new_if : (b : Bool) (o : Option (Option FieldKind)) → is_some o ≡ not b → b ≡ is_none o
new_if true None h = refl
new_if true (Some x) h = absurd (true≢false h)
new_if false None h = absurd (true≢false (sym h))
new_if false (Some x) h = refl

put : (m more : ByName ℕ) (ls now : List Local) (n : List ℕ) (b : Bool) (o : Option (Option FieldKind)) (k : ℕ) → more ≡ place_if b m n k → is_some o ≡ not b → o ≡ local_in n now → ls ≡ now → k ≡ length ls
    → more ≡ place_if (is_none (local_in n ls)) m n (length ls)
put m more ls now n b o k placed new kind same count =
    placed
    ∙ ap (λ x. place_if x m n k) (new_if b o new ∙ ap (λ x. is_none x) (kind ∙ ap (λ xs. local_in n xs) (sym same)))
    ∙ ap (λ x. place_if (is_none (local_in n ls)) m n x) count

pub invariant_of-self-in_err-push : goal.invariant_of-self-in_err-push
invariant_of-self-in_err-push c = λ name i e.
    let m = c.self.inside.places in
    let ls = c.self.inside.names in
    let n = c.args.local.name in
    ap (λ x. map.get x name)
    (put m c.put_place_if.new.places ls c.args.self.now n c.is_none-is_new.result c.kind_of.result c.len.result c.in_ok-put_place_if.ensures.ok c.is_none-is_new.ensures c.kind_of.ensures c.self.view_is c.len.ensures)
    ∙ still m n ls (length ls) c.self.invariant name i (ap (λ xs. place_of name xs) (sym c.in_err-push.ensures.err) ∙ e)

pub invariant_of-self-2 : goal.invariant_of-self-2
invariant_of-self-2 c = λ name i e.
    let m = c.self.inside.places in
    let ls = c.self.inside.names in
    let n = c.args.local.name in
    ap (λ x. map.get x name)
    (put m c.put_place_if.new.places ls c.args.self.now n c.is_none-is_new.result c.kind_of.result c.len.result c.in_ok-put_place_if.ensures.ok c.is_none-is_new.ensures c.kind_of.ensures c.self.view_is c.len.ensures)
    ∙ grown m c.args.local ls c.self.invariant name i (ap (λ xs. place_of name xs) (sym c.in_ok-push.ensures.ok) ∙ e)
