use Rattle.std.proofs.Common.{rules}
use Rattle.std.proofs.lemmas.List.Sorted.{answers_always}
use Rattle.std.specs.Ordering.{is_lt}
use Rattle.nb_report.specs.Listed.{due_cmp, due_of}
use Rattle.nb_report.specs.declared.listed.DelayedEntry.{DelayedEntry}
use Rattle.nb_report.proofs.ListedLaws.{due_order, sorted_shown}
use Rattle.nb_report.proofs.listed.delayed.Goals as goal

pub returns : goal.returns
returns c =
    let lt = λ (x y : DelayedEntry). is_lt (due_cmp (due_of x) (due_of y)) in
    let answers = answers_always _ _ _ (λ f a r g h. search rules) in
    sorted_shown due_of due_cmp c.in_ok-list.list.items c.sort_by.new.self.items _ due_order (c.in_ok-sort_by.ensures.sorted lt due_order answers) (c.in_ok-sort_by.ensures.stable lt due_order answers) c.in_ok-list.ensures
