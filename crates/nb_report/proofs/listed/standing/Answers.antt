use Rattle.std.proofs.Common.{rules}
use Rattle.std.proofs.lemmas.List.Sorted.{answers_always}
use Rattle.std.specs.Ordering.{is_lt}
use Rattle.nb_report.specs.Listed.{queue_cmp, entry_of}
use Rattle.nb_report.specs.declared.listed.QueueEntry.{QueueEntry}
use Rattle.nb_report.proofs.ListedLaws.{queue_order, sorted_shown}
use Rattle.nb_report.proofs.listed.standing.Goals as goal

pub returns : goal.returns
returns c =
    let lt = λ (x y : QueueEntry). is_lt (queue_cmp (entry_of x) (entry_of y)) in
    let answers = answers_always _ _ _ (λ f a r g h. search rules) in
    sorted_shown entry_of queue_cmp c.in_ok-list.list.items c.sort_by.new.self.items _ queue_order (c.in_ok-sort_by.ensures.sorted lt queue_order answers) (c.in_ok-sort_by.ensures.stable lt queue_order answers) c.in_ok-list.ensures
