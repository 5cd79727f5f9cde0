-- What is in sight at the end of a block.
use Rattle.std.proofs.Common.{◌≡◌, ◌≤◌, ℕ, zero, suc, List, [], ◌∷◌, ◌++◌, length, take, drop, refl, sym, ap, ◌∙◌, arith, append_assoc, append-nil}
use Rattle.nb_script.specs.declared.stmt.Stmt.{Stmt}
use Rattle.nb_script.specs.Grammar.{Phrase, Let, Set, Put, Add, Erase, Send, Publish, Reply, Timeout, Complete, Refuse, If, Phrases, Nil, Then}
use Rattle.nb_script.specs.Tree.{listed}
use Rattle.nb_check.specs.Kinds.{kind}
use Rattle.nb_check.specs.Statements.{after, all_after}
use Rattle.nb_check.specs.declared.sight.Local.{Local}
use Rattle.nb_check.specs.declared.sight.Sight.{Sight}

-- the names that a statement brings into sight
made : Phrase → Sight → List Local
made (Let at q n u x c) g = record { name = n; kind = kind x g } ∷ []
made _ g = []

with_names : Sight → List Local → Sight
with_names g ns = record g { names = ns }

after-made : (d : Phrase) (g : Sight) → after d g ≡ with_names g (g.names ++ made d g)
unfolding made with_names
after-made (Let at q n u x c) g = refl
after-made (Set at q n u x c) g = ap (with_names g) (sym (append-nil g.names))
after-made (Put at r u x c) g = ap (with_names g) (sym (append-nil g.names))
after-made (Add at r u x c) g = ap (with_names g) (sym (append-nil g.names))
after-made (Erase at r c) g = ap (with_names g) (sym (append-nil g.names))
after-made (Send a at to m c) g = ap (with_names g) (sym (append-nil g.names))
after-made (Publish at m c) g = ap (with_names g) (sym (append-nil g.names))
after-made (Reply at o m c) g = ap (with_names g) (sym (append-nil g.names))
after-made (Timeout at x m c) g = ap (with_names g) (sym (append-nil g.names))
after-made (Complete at c) g = ap (with_names g) (sym (append-nil g.names))
after-made (Refuse at r q n x c) g = ap (with_names g) (sym (append-nil g.names))
after-made (If at x b o) g = ap (with_names g) (sym (append-nil g.names))

all_made : Phrases → Sight → List Local
all_made Nil g = []
all_made (Then d more) g = made d g ++ all_made more (after d g)

extended : (g h : Sight) (xs ys : List Local) → h ≡ with_names g (g.names ++ xs) → with_names h (h.names ++ ys) ≡ with_names g (g.names ++ (xs ++ ys))
unfolding with_names
extended g h xs ys e = ap (λ k. with_names k (k.names ++ ys)) e ∙ ap (with_names g) (append_assoc g.names xs ys)

all_after-made : (ds : Phrases) (g : Sight) → all_after ds g ≡ with_names g (g.names ++ all_made ds g)
unfolding all_made with_names
all_after-made Nil g = ap (with_names g) (sym (append-nil g.names))
all_after-made (Then d more) g = all_after-made more (after d g) ∙ extended g (after d g) (made d g) (all_made more (after d g)) (after-made d g)

front : (xs ys : List Local) → take (length xs) (xs ++ ys) ≡ xs
front [] ys = refl
front (x ∷ xs) ys = ap (λ r. x ∷ r) (front xs ys)

-- the names that a block brings into sight, cut off again
pub cut_back : (ds : Phrases) (g h : Sight) → h ≡ all_after ds g → record h { names = take (length g.names) h.names } ≡ g
unfolding with_names
cut_back ds g h e =
    ap (λ k. with_names k (take (length g.names) k.names)) (e ∙ all_after-made ds g) ∙ ap (with_names g) (front g.names (all_made ds g))

pub nothing_left : (ds : List Stmt) (i : ℕ) (g : Sight) → length ds ≤ i → all_after (listed (drop i ds)) g ≡ g
nothing_left [] zero g h = refl
nothing_left [] (suc i) g h = refl
nothing_left (d ∷ ds) zero g h = absurd (omega arith)
nothing_left (d ∷ ds) (suc i) g h = nothing_left ds i g (omega arith)
