-- The least free number is what the computed one is.
use Rattle.std.proofs.Common.{◌≡◌, ℕ, Bool, true, false, true≢false, Some, None, Option, refl, sym, ap, ◌∙◌, subst, arith}
use Rattle.std.proofs.lemmas.Bool.{eq-eqb}
use Rattle.std.proofs.lemmas.Map.Views.{exact_unsigned_eq}
use Rattle.std.specs.FinMap.{get-entries, entries_sorted}
use Rattle.std.specs.Option.{unwrap_or, is_none}
use Rattle.std.specs.Prelude.{not}
use Rattle.std.proofs.lemmas.Slice.Eq.{bytes_eq-Decides}
use Rattle.nb_base.specs.Orders.{ByNumber}
use Rattle.nb_base.specs.declared.tables.Queued.{Queued}
use Rattle.nb_core.proofs.Firsts.{some_is, both_true, are_true, First, is_there, is_nowhere, first_is, any_found, any_at}
use Rattle.nb_core.specs.After.{is_number, is_named, is_free, least_free}
use Rattle.nb_core.specs.State.{State, Constants, Phase, Idle, phase_in, entry, number_of, IsFree, IsLeastFree}
use Rattle.std.specs.FinMap as map

number_is : (n : ℕ) (o : Option ℕ) → is_number n o ≡ true → o ≡ Some n
number_is n None e = absurd (true≢false (sym e))
number_is n (Some m) e = ap Some (sym (exact_unsigned_eq n m e))

named_by : (n : ℕ) → is_number n (Some n) ≡ true
named_by n = eq-eqb n n refl

none_is : {A : Type 0} (o : Option A) → is_none o ≡ true → o ≡ None
none_is None e = refl
none_is (Some x) e = absurd (true≢false (sym e))

turn : (b : Bool) → not b ≡ true → b ≡ false
turn true e = absurd (true≢false (sym e))
turn false e = refl

-- an entry that a worker's phase names is named
is_named_by : (phases : ByNumber Phase) (w n : ℕ) → number_of (phase_in phases w) ≡ Some n → is_named phases n ≡ true
is_named_by phases w n e = go (map.get phases w) refl
  where
    go : (o : Option Phase) → map.get phases w ≡ o → is_named phases n ≡ true
    go None is = let z : None ≡ Some n = ap (λ o. number_of (unwrap_or o Idle)) (sym is) ∙ e in absurd (cc)
    go (Some p) is =
        any_found (λ q. is_number n (number_of q)) (map.entries phases) w p (sym (get-entries phases w) ∙ is)
        (ap (is_number n) (ap (λ o. number_of (unwrap_or o Idle)) (sym is) ∙ e) ∙ named_by n)

-- and one that is named a worker's phase names
named_at : (phases : ByNumber Phase) (n : ℕ) → is_named phases n ≡ true → (w : ℕ) × (number_of (phase_in phases w) ≡ Some n)
named_at phases n e =
    let r = any_at (λ q. is_number n (number_of q)) (map.entries phases) (entries_sorted phases) e in
    (r.0, ap (λ o. number_of (unwrap_or o Idle)) (get-entries phases r.0 ∙ r.2) ∙ number_is n (number_of r.1) r.3)

unnamed : (b : Bool) → (b ≡ true → ⊥) → not b ≡ true
unnamed true f = absurd (f refl)
unnamed false f = refl

module _ (c : Constants) (s : State) where
  pub is_free_of : (n : ℕ) (e : Queued) → entry s n ≡ Some e → is_free c s n e ≡ true → IsFree c s n
  is_free_of n e there h =
      let p = both_true _ _ h in
      let q = both_true _ _ p.0 in
      record {
        it = e;
        there = there;
        ready = ((bytes_eq-Decides e.queue c.settings.endpoint).0 q.0, none_is e.due q.1);
        unnamed = λ w is. true≢false (sym (is_named_by s.phases w n is) ∙ turn _ p.1);
      }

  pub of_is_free : (n : ℕ) (f : IsFree c s n) → is_free c s n f.it ≡ true
  of_is_free n f =
      are_true _ _
      (are_true _ _ ((bytes_eq-Decides f.it.queue c.settings.endpoint).1 f.ready.0) (ap is_none f.ready.1))
      (unnamed _ (λ e. let r = named_at s.phases n e in f.unnamed r.0 r.1))

  free_first : (o : Option ℕ) → First (is_free c s) (map.entries s.post.entries) o → (n : ℕ) → IsLeastFree c s n → o ≡ Some n
  free_first (Some m) (is_there v f t least) n l =
      let a = l.least m (is_free_of m v (get-entries s.post.entries m ∙ f) t) in
      let b = least n l.free.it (sym (get-entries s.post.entries n) ∙ l.free.there) (of_is_free n l.free) in
      let same : m ≡ n = omega arith in
      ap Some same
  free_first None (is_nowhere none) n l = absurd (none n l.free.it (sym (get-entries s.post.entries n) ∙ l.free.there) (of_is_free n l.free))

  first_free : (o : Option ℕ) → First (is_free c s) (map.entries s.post.entries) o → (n : ℕ) → o ≡ Some n → IsLeastFree c s n
  first_free (Some m) (is_there v f t least) n e = subst (IsLeastFree c s) (some_is e) (record {
    free = is_free_of m v (get-entries s.post.entries m ∙ f) t;
    least = λ other g. least other g.it (sym (get-entries s.post.entries other) ∙ g.there) (of_is_free other g);
  })
  first_free None (is_nowhere none) n e = absurd (cc)

  no_free : (o : Option ℕ) → First (is_free c s) (map.entries s.post.entries) o → o ≡ None → (n : ℕ) → IsFree c s n → ⊥
  no_free (Some m) (is_there v f t least) e n g = absurd (cc)
  no_free None (is_nowhere none) e n g = none n g.it (sym (get-entries s.post.entries n) ∙ g.there) (of_is_free n g)

  first_of_entries : First (is_free c s) (map.entries s.post.entries) (least_free c s)
  first_of_entries = first_is (is_free c s) (map.entries s.post.entries) (entries_sorted s.post.entries)

  pub least_free_is : (n : ℕ) → IsLeastFree c s n → least_free c s ≡ Some n
  least_free_is = free_first _ first_of_entries

  pub is_least_free : (n : ℕ) → least_free c s ≡ Some n → IsLeastFree c s n
  is_least_free = first_free _ first_of_entries

  pub nothing_free : least_free c s ≡ None → (n : ℕ) → IsFree c s n → ⊥
  nothing_free = no_free _ first_of_entries
