-- What changes of the post keep.
use Rattle.std.specs.Prelude.{◌≡◌, ◌≢◌, ℕ, ◌+◌, ◌-◌, ◌<◌, ◌≤◌, ◌^◌, List, [], ◌∷◌, Option, Some, None, refl}
use Rattle.std.proofs.Common.{◌∙◌, inl, inr, sym, ap, subst, arith}
use Rattle.std.specs.Option.{option_map_or}
use Rattle.std.specs.FinMap as map
use Rattle.std.specs.Cmp.{nat_cmp_total}
use Rattle.nb_base.proofs.Maps.{numbers, same_or_other, at_same, at_other, gone, kept}
use Rattle.nb_base.specs.Orders.{ByNumber}
use Rattle.nb_base.specs.Sound.{IsSoundEntry}
use Rattle.nb_base.specs.declared.tables.PostState.{PostState}
use Rattle.nb_base.specs.declared.tables.Queued.{Queued}
use Rattle.nb_queue.specs.Spelled.{IsEntry}
use Rattle.nb_queue.specs.Stands.{IsPost, with_entry, without_entry, in_place, stands_now, released}
use Rattle.nb_queue.specs.Applied.{Leads}
use Rattle.nb_cells.specs.Cells.{AreDistinct, changed}
use Rattle.nb_cells.specs.declared.change.Change.{Change}
use Rattle.nb_queue.specs.Changes.{change_of_entry, change_of_next, change_of_removal}
use Rattle.nb_queue.specs.Maps.{cells_of}
use Rattle.nb_queue.proofs.CellLaws.{changed-put, changed-remove, changed-in_place, leads_from}
use Rattle.std.specs.List.{IsDistinct}

pub inside : (a b : Queued) → Some a ≡ Some b → a ≡ b
inside a b e = cc

none_if : (o : Option Queued) → ((e : Queued) → o ≡ Some e → ⊥) → o ≡ None
none_if None h = refl
none_if (Some e) h = absurd (h e refl)

-- no entry has the next number
pub next_is_new : (p : PostState) → IsPost p → map.get p.entries p.next ≡ None
next_is_new p post = none_if _ (λ e has. let lt = (post.sound.entries p.next e has).below in omega arith)

-- what was put and taken out again
pub back_again : (p : PostState) (e : Queued) → IsPost p → map.remove (map.insert p.entries p.next e) p.next ≡ p.entries
back_again p e post = map.same_map nat_cmp_total map.nat_cmp-IsAntisymmetric _ _ (λ q.
    elim (same_or_other numbers q p.next) [
      | inl same ↦
          subst (λ k. map.get (map.remove (map.insert p.entries p.next e) p.next) k ≡ map.get p.entries k) (sym same) (gone numbers (map.insert p.entries p.next e) p.next ∙ sym (next_is_new p post))
      | inr other ↦ kept numbers (map.insert p.entries p.next e) p.next q other ∙ at_other numbers p.entries p.next e q other
    ])

pub is_with_entry : (p : PostState) (e : Queued) → IsPost p → p.next < 2 ^ 62 → IsEntry e → IsPost (with_entry p e)
is_with_entry p e post room is = record {
  sound = record {
    from = omega arith;
    to = omega arith;
    entries = λ n x has.
        elim (same_or_other numbers n p.next) [
          | inl same ↦
              let this : e ≡ x = inside e x (sym (at_same numbers p.entries p.next e) ∙ subst (λ k. map.get (map.insert p.entries p.next e) k ≡ Some x) same has) in
              let from = post.sound.from in
              subst (IsSoundEntry (p.next + 1) n) this (record { from = omega arith; below = omega arith; queue = is.named; id = is.envelope.message.id })
          | inr other ↦
              let was = post.sound.entries n x (sym (at_other numbers p.entries p.next e n other) ∙ has) in
              let lt = was.below in
              record { from = was.from; below = omega arith; queue = was.queue; id = was.id }
        ];
  };
  spelled = λ n x has.
      elim (same_or_other numbers n p.next) [
        | inl same ↦ subst IsEntry (inside e x (sym (at_same numbers p.entries p.next e) ∙ subst (λ k. map.get (map.insert p.entries p.next e) k ≡ Some x) same has)) is
        | inr other ↦ post.spelled n x (sym (at_other numbers p.entries p.next e n other) ∙ has)
      ];
}

absent : (o : Option Queued) (e : Queued) → o ≡ None → o ≡ Some e → ⊥
absent o e x y = cc

was_there : (entries : ByNumber Queued) (number n : ℕ) (x : Queued) → map.get (map.remove entries number) n ≡ Some x → map.get entries n ≡ Some x
was_there entries number n x has =
    elim (same_or_other numbers n number) [
      | inl same ↦ absurd (absent _ x (gone numbers entries number) (subst (λ k. map.get (map.remove entries number) k ≡ Some x) same has))
      | inr other ↦ sym (kept numbers entries number n other) ∙ has
    ]

pub is_without_entry : (p : PostState) (number : ℕ) → IsPost p → IsPost (without_entry p number)
is_without_entry p number post = record {
  sound = record { from = post.sound.from; to = post.sound.to; entries = λ n x has. post.sound.entries n x (was_there p.entries number n x has) };
  spelled = λ n x has. post.spelled n x (was_there p.entries number n x has);
}

-- the two cells of a new entry are at two places
pub distinct_put : (number : ℕ) (e : Queued) (next : ℕ) → AreDistinct (change_of_entry number e ∷ change_of_next next ∷ [])
unfolding IsDistinct
distinct_put number e next = ((refl, tt), (tt, tt))

pub distinct_entry : (number : ℕ) (e : Queued) → AreDistinct (change_of_entry number e ∷ [])
unfolding IsDistinct
distinct_entry number e = (tt, tt)

pub distinct_removal : (number : ℕ) → AreDistinct (change_of_removal number ∷ [])
unfolding IsDistinct
distinct_removal number = (tt, tt)

-- what its changes make of the cells of a post
pub leads_put : (p : PostState) (e : Queued) (cs : List Change) → IsPost p → p.next < 2 ^ 62 → cs ≡ change_of_entry p.next e ∷ change_of_next (p.next + 1) ∷ [] → Leads cs p (with_entry p e)
leads_put p e cs post room is = let from = post.sound.from in leads_from cs p (with_entry p e) (ap (λ x. changed x (cells_of p)) is ∙ changed-put p e (omega arith) (omega arith))

pub leads_removal : (p : PostState) (number : ℕ) (cs : List Change) → number < 2 ^ 64 → cs ≡ change_of_removal number ∷ [] → Leads cs p (without_entry p number)
leads_removal p number cs fits is = leads_from cs p (without_entry p number) (ap (λ x. changed x (cells_of p)) is ∙ changed-remove p number fits)

-- the post after a release, by the entry that was there
pub released-there : (p : PostState) (number : ℕ) (e r : Queued) → map.get p.entries number ≡ Some e → r ≡ stands_now e → in_place p number r ≡ released p number
released-there p number e r there is = ap (in_place p number) is ∙ sym (ap (λ o. option_map_or (λ x. in_place p number (stands_now x)) o p) there)

pub leads_release : (p : PostState) (number : ℕ) (e r : Queued) (cs : List Change) → number < 2 ^ 64 → map.get p.entries number ≡ Some e → r ≡ stands_now e → cs ≡ change_of_entry number r ∷ [] → Leads cs p (released p number)
leads_release p number e r cs fits there is changes =
    leads_from cs p (released p number) (ap (λ x. changed x (cells_of p)) changes ∙ changed-in_place p number r fits ∙ ap cells_of (released-there p number e r there is))

-- the queue of an entry that was there has a name
pub named_release : (p : PostState) (number : ℕ) (e r : Queued) → IsPost p → map.get p.entries number ≡ Some e → r ≡ stands_now e → r.queue ≢ []
named_release p number e r post there is = subst (λ (x : Queued). x.queue ≢ []) (sym is) ((post.sound.entries number e there).queue)

pub is_in_place : (p : PostState) (number : ℕ) (e : Queued) → IsPost p → map.get p.entries number ≡ Some e → IsPost (in_place p number (stands_now e))
is_in_place p number e post there = record {
  sound = record {
    from = post.sound.from;
    to = post.sound.to;
    entries = λ n x has.
        elim (same_or_other numbers n number) [
          | inl same ↦
              let was = post.sound.entries number e there in
              subst (λ k. IsSoundEntry p.next k x) (sym same) (subst (IsSoundEntry p.next number) (this n x has same) (record { from = was.from; below = was.below; queue = was.queue; id = was.id }))
          | inr other ↦ post.sound.entries n x (sym (at_other numbers p.entries number (stands_now e) n other) ∙ has)
        ];
  };
  spelled = λ n x has.
      elim (same_or_other numbers n number) [
        | inl same ↦
            let was = post.spelled number e there in
            subst IsEntry (this n x has same) (record { queue = was.queue; named = was.named; due = tt; envelope = was.envelope })
        | inr other ↦ post.spelled n x (sym (at_other numbers p.entries number (stands_now e) n other) ∙ has)
      ];
}
  where
    this : (n : ℕ) (x : Queued) → map.get (map.insert p.entries number (stands_now e)) n ≡ Some x → n ≡ number → stands_now e ≡ x
    this n x has same = inside (stands_now e) x (sym (at_same numbers p.entries number (stands_now e)) ∙ subst (λ k. map.get (map.insert p.entries number (stands_now e)) k ≡ Some x) same has)

-- the entry with the greatest number was taken out
pub is_dropped : (p : PostState) (number : ℕ) → IsPost p → 1 ≤ number → p.next ≡ number + 1 → IsPost (record { entries = map.remove p.entries number; next = number })
is_dropped p number post from last = record {
  sound = record {
    from = from;
    to = let to = post.sound.to in omega arith;
    entries = λ n x has.
        let was = post.sound.entries n x (was_there p.entries number n x has) in
        let lt = was.below in
        elim (same_or_other numbers n number) [
          | inl same ↦ absurd (absent _ x (gone numbers p.entries number) (subst (λ k. map.get (map.remove p.entries number) k ≡ Some x) same has))
          | inr other ↦ record { from = was.from; below = omega arith; queue = was.queue; id = was.id }
        ];
  };
  spelled = λ n x has. post.spelled n x (was_there p.entries number n x has);
}

-- an entry that was added and dropped again
pub dropped_again : (p q : PostState) (e : Queued) (last : ℕ) → IsPost p → q ≡ with_entry p e → last ≡ q.next - 1 → (let r : PostState = record { entries = map.remove q.entries last; next = last } in r) ≡ p
dropped_again p q e last post added is =
    let at : last ≡ p.next = is ∙ ap (λ (x : PostState). x.next - 1) added ∙ omega arith in
    let back : map.remove q.entries last ≡ p.entries = ap (map.remove q.entries) at ∙ ap (λ (x : PostState). map.remove x.entries p.next) added ∙ back_again p e post in
    λ i. record { entries = back i; next = at i }
