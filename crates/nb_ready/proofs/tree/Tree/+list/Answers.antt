use Rattle.std.proofs.Common.{◌∙◌, ◌++◌, ap, sym, arith, rules, length-append, append_assoc, length}
use Rattle.std.proofs.lemmas.List.{append-nil}
use Rattle.std.specs.FinMap as finite
use Rattle.nb_ready.specs.Seats.{counts_of}
use Rattle.nb_ready.proofs.NodeLaws.{at_fork, is_empty, is_one}
use Rattle.nb_ready.proofs.CountLaws.{counts-empty, counts-one_above, counts-one_none, counts-joined, len-joined, len-one, few_counts}
use Rattle.nb_ready.proofs.tree.Tree.+list.Goals as goal

pub push_reserved-requires : goal.push_reserved-requires
push_reserved-requires t c =
    let one = ap finite.len (is_one _ _ _ _ c.self.view_is c.in-One.is) ∙ len-one c.in-One.number c.in-One.seat in
    omega (arith, one, c.requires)

pub list-requires : goal.list-requires
list-requires t c =
    let f = at_fork c.self.view_is c.self.invariant c.in-Fork.is in
    let both = ap finite.len f.is ∙ len-joined _ _ _ f.apart in
    let low = ap (λ v. finite.len v.0) c.deref.ensures in
    (search rules, omega (arith, both, low, c.requires))

pub list-requires-in-Fork : goal.list-requires-in-Fork
list-requires-in-Fork t c =
    let f = at_fork c.self.view_is c.self.invariant c.in-Fork.is in
    let both = ap finite.len f.is ∙ len-joined _ _ _ f.apart in
    let low = ap (λ v. finite.len v.0) c.deref.ensures in
    let high = ap (λ v. finite.len v.0) c.deref-in-Fork.ensures in
    let few = few_counts c.deref.result.now.0 in
    let more = ap (λ xs. length xs) c.list.ensures.items ∙ length-append c.args.out.now.items (counts_of c.deref.result.now.0) in
    (search rules, omega (arith, both, low, high, few, more, c.requires, c.list.ensures.room))

pub returns-in-Empty-clause-items : goal.returns-in-Empty-clause-items
returns-in-Empty-clause-items t c = sym (ap (λ m. c.args.out.now.items ++ counts_of m) (is_empty _ _ c.self.view_is c.in-Empty.is) ∙ ap (λ xs. c.args.out.now.items ++ xs) counts-empty ∙ append-nil c.args.out.now.items)

pub returns-then-seat-gt0-clause-items : goal.returns-then-seat-gt0-clause-items
returns-then-seat-gt0-clause-items t c =
    c.push_reserved.ensures.items
    ∙ sym (ap (λ m. c.args.out.now.items ++ counts_of m) (is_one _ _ _ _ c.self.view_is c.in-One.is) ∙ ap (λ xs. c.args.out.now.items ++ xs) (counts-one_above c.in-One.number c.in-One.seat c.if-seat-gt0.true))

pub returns-else-seat-gt0-clause-items : goal.returns-else-seat-gt0-clause-items
returns-else-seat-gt0-clause-items t c =
    sym (ap (λ m. c.args.out.now.items ++ counts_of m) (is_one _ _ _ _ c.self.view_is c.in-One.is) ∙ ap (λ xs. c.args.out.now.items ++ xs) (counts-one_none c.in-One.number c.in-One.seat c.if-seat-gt0.false) ∙ append-nil c.args.out.now.items)

pub returns-in-Fork-clause-items : goal.returns-in-Fork-clause-items
returns-in-Fork-clause-items t c =
    let f = at_fork c.self.view_is c.self.invariant c.in-Fork.is in
    c.list-in-Fork.ensures.items
    ∙ ap (λ xs. xs ++ counts_of c.deref-in-Fork.result.now.0) (c.list.ensures.items ∙ ap (λ v. c.args.out.now.items ++ counts_of v.0) c.deref.ensures)
    ∙ ap (λ v. (c.args.out.now.items ++ counts_of c.in-Fork.low.value.0) ++ counts_of v.0) c.deref-in-Fork.ensures
    ∙ append_assoc c.args.out.now.items (counts_of c.in-Fork.low.value.0) (counts_of c.in-Fork.high.value.0)
    ∙ ap (λ xs. c.args.out.now.items ++ xs) (sym (ap counts_of f.is ∙ counts-joined _ _ _ f.apart))
