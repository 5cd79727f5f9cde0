-- The orders in which entries are listed are orders.
use Rattle.std.proofs.Common.{◌≡◌, ◌∙◌, List, map, ap}
use Rattle.std.proofs.lemmas.Cmp.{then_total, on_total, nat_list_cmp_total, nat_cmp_total}
use Rattle.std.proofs.lemmas.List.MinMax.{ranks_by}
use Rattle.std.specs.Cmp.{IsStrictWeakOrder, IsTotalOrder}
use Rattle.std.specs.List.Sorted.{IsSortedBy, IsStableBy}
use Rattle.std.specs.Ordering.{is_lt}
use Rattle.std.specs.declared.cmp.Ordering.{Ordering}
use Rattle.nb_report.specs.InOrder.{in_order}
use Rattle.nb_report.specs.Listed.{queue_cmp, due_cmp, entry_of, due_of}
use Rattle.nb_report.specs.declared.listed.QueueEntry.{QueueEntry}
use Rattle.nb_report.specs.declared.listed.DelayedEntry.{DelayedEntry}
use Rattle.nb_report.proofs.InOrderLaws.{order-from_sort, order-map}

queue_total : IsTotalOrder queue_cmp
queue_total = then_total (on_total (λ e. e.1.queue) nat_list_cmp_total) (on_total (λ e. e.0) nat_cmp_total)

due_total : IsTotalOrder due_cmp
due_total = then_total (on_total (λ e. e.0) nat_cmp_total) (on_total (λ e. e.1) nat_cmp_total)

pub queue_order : IsStrictWeakOrder (λ (x y : QueueEntry). is_lt (queue_cmp (entry_of x) (entry_of y)))
queue_order = ranks_by queue_total entry_of

pub due_order : IsStrictWeakOrder (λ (x y : DelayedEntry). is_lt (due_cmp (due_of x) (due_of y)))
due_order = ranks_by due_total due_of

-- what a stable sort leaves shows what was there in order
pub sorted_shown : {X Y : Type 0} (shown : X → Y) (cmp : Y → Y → Ordering) (xs ys : List X) (all : List Y) → IsStrictWeakOrder (λ x y. is_lt (cmp (shown x) (shown y)))
    → IsSortedBy (λ x y. is_lt (cmp (shown x) (shown y))) ys → IsStableBy (λ x y. is_lt (cmp (shown x) (shown y))) xs ys
    → map shown xs ≡ all → map shown ys ≡ in_order (λ a b. is_lt (cmp a b)) all
sorted_shown shown cmp xs ys all o sorted stable is =
    ap (map shown) (order-from_sort (λ x y. is_lt (cmp (shown x) (shown y))) o xs ys sorted stable)
    ∙ order-map shown (λ a b. is_lt (cmp a b)) xs
    ∙ ap (in_order (λ a b. is_lt (cmp a b))) is
