use Rattle.std.proofs.Common.{◌≡◌, ◌∙◌, sym, subst, rules}
use Rattle.std.proofs.lemmas.List.Sorted.{answers_always}
use Rattle.std.proofs.lemmas.Result.{IfOk-weaker}
use Rattle.std.specs.List.Sorted.{IsPermutation, IsStableByKey}
use Rattle.std.specs.Ordering.{nat_cmp}
use Rattle.nb_queue.specs.Listed.{waiting, due_of, AreDelayed}
use Rattle.nb_queue.proofs.listed.delayed.Goals as goal

pub returns : goal.returns
returns c =
    let is : c.into_vec-list.result.items ≡ waiting c.args.entries.now = c.into_vec-list.ensures ∙ c.in_ok-waiting.ensures in
    let list = c.sort_by_key.new.self.items in
    let key = answers_always _ _ _ (λ f a r g h. search rules) in
    let delayed : AreDelayed c.args.entries.now list = record {
      all = subst (λ xs. IsPermutation xs list) is c.in_ok-sort_by_key.ensures.permutation;
      order = c.in_ok-sort_by_key.ensures.sorted due_of key;
      ties = subst (λ xs. IsStableByKey due_of nat_cmp xs list) is (c.in_ok-sort_by_key.ensures.stable due_of key);
    } in
    IfOk-weaker c.of_vec.result _ _ (λ x same. subst (AreDelayed c.args.entries.now) (sym same) delayed) c.of_vec.ensures.value
