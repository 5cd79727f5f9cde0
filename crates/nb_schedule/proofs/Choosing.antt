-- The keys that are chosen of a map's entries: each stands once, and its entry passes the test.
use Rattle.std.proofs.Common.{Ordering, Less, Equal, Greater, ◌≡◌, ◌≢◌, ℕ, zero, suc, ◌+◌, Bool, true, false, true≢false, cond, Some, None, Option, refl, sym, ap, ◌∙◌, subst, T, List, [], ◌∷◌}
use Rattle.std.proofs.Math.Dec.{leb→le}
use Rattle.std.proofs.lemmas.Slice.Eq.{bytes_eq-Decides}
use Rattle.std.specs.Cmp.{Equal-is}
use Rattle.std.specs.FinMap as map
use Rattle.std.specs.FinMap.{FinMap, find, is_sorted, get-entries, entries_sorted}
use Rattle.std.specs.FinMap.Entries.{below_all}
use Rattle.std.specs.List.{filter_map, cons_option}
use Rattle.std.specs.Option.{is_none}
use Rattle.std.specs.Ordering.{eq_by_cmp, is_lt}
use Rattle.std.specs.Prelude.{◌&&◌, slice_get, length, nat_lt, nat_le, if◌then◌else◌}
use Rattle.nb_base.proofs.Maps.{IsExact, names, numbers, itself, ties}
use Rattle.nb_base.specs.declared.entry.OutboxRow.{OutboxRow}
use Rattle.nb_base.specs.declared.tables.Queued.{Queued}
use Rattle.nb_core.specs.Calls.{CanPurge, CanReturn}
use Rattle.nb_core.specs.Standing.{Constants}
use Rattle.nb_core.specs.declared.state.State.{State}
use Rattle.nb_headers.specs.Reads.{failed_queue}
use Rattle.nb_hub.specs.Returnable.{is_returnable, returnable}
use Rattle.nb_pump.specs.Plans.{StandOnce}
use Rattle.nb_store.specs.Lookups.{purgeable}

-- the key of an entry that passes the test
abbrev pub choosing : {K V : Type 0} → (K × V → Bool) → K × V → Option K
choosing test e = if test e then Some e.0 else None

both_true : (a b : Bool) → (a && b) ≡ true → (a ≡ true) × (b ≡ true)
both_true true b e = (refl, e)
both_true false b e = absurd (true≢false (sym e))

parts : (a b : Bool) → T (a && b) → T a × T b
parts true b h = (tt, h)
parts false b h = absurd h

is_less : (o : Ordering) → T (is_lt o) → o ≡ Less
is_less Less h = refl
is_less Equal h = absurd h
is_less Greater h = absurd h

some_is : {A : Type 0} {x y : A} → Some x ≡ Some y → x ≡ y
some_is e = cc

module _ {K V : Type 0} {R : K → K → Ordering} (x : IsExact R) (test : K × V → Bool) where
  abbrev chosen : List (K × V) → List K
  chosen es = filter_map (choosing test) es

  no_less : (k : K) → R k k ≡ Less → ⊥
  no_less k less = let e : Less ≡ Equal = sym less ∙ (Equal-is (R k k)).0 (itself x k) in cc

  -- what is chosen behind a key is above it
  above : (k : K) (es : List (K × V)) → T (below_all R k es) → (i : ℕ) (j : K) → slice_get (chosen es) i ≡ Some j → R k j ≡ Less
  above k [] low i j at = absurd cc
  above k (e ∷ es) low i j at = go (λ n there. above k es (parts _ _ low).1 n j there) (test e) i at
    where
      go : ((n : ℕ) → slice_get (chosen es) n ≡ Some j → R k j ≡ Less) → (b : Bool) (i : ℕ) → slice_get (cons_option (cond b (Some e.0) None) (chosen es)) i ≡ Some j → R k j ≡ Less
      go later true zero at = ap (R k) (sym (some_is at)) ∙ is_less (R k e.0) (parts _ _ low).0
      go later true (suc i) at = later i at
      go later false i at = later i at

  once : (es : List (K × V)) → T (is_sorted R es) → StandOnce (chosen es)
  once [] h i j k a b = absurd cc
  once (e ∷ es) h i j k a b = go (once es (parts _ _ h).1) (test e) i j a b
    where
      there : (i : ℕ) → slice_get (chosen es) i ≡ Some e.0 → ⊥
      there i at = no_less e.0 (above e.0 es (parts _ _ h).0 i e.0 at)

      go : StandOnce (chosen es) → (b : Bool) (i j : ℕ) → slice_get (cons_option (cond b (Some e.0) None) (chosen es)) i ≡ Some k → slice_get (cons_option (cond b (Some e.0) None) (chosen es)) j ≡ Some k → i ≡ j
      go later true zero zero a b = refl
      go later true zero (suc j) a b = absurd (there j (b ∙ sym a))
      go later true (suc i) zero a b = absurd (there i (a ∙ sym b))
      go later true (suc i) (suc j) a b = ap suc (later i j k a b)
      go later false i j a b = later i j k a b

  found_here : (e : K × V) (es : List (K × V)) → find R e.0 (e ∷ es) ≡ Some e.1
  found_here e es = ap (λ b. cond b (Some e.1) (find R e.0 es)) (itself x e.0)

  found_later : (e : K × V) (es : List (K × V)) (k : K) → R e.0 k ≡ Less → find R k (e ∷ es) ≡ find R k es
  found_later e es k less = go (eq_by_cmp R k e.0) refl
    where
      go : (b : Bool) → eq_by_cmp R k e.0 ≡ b → cond b (Some e.1) (find R k es) ≡ find R k es
      go true same = absurd (no_less e.0 (ap (R e.0) (sym (ties x k e.0 same)) ∙ less))
      go false other = refl

  found : (es : List (K × V)) → T (is_sorted R es) → (i : ℕ) (k : K) → slice_get (chosen es) i ≡ Some k → (v : V) × (find R k es ≡ Some v) × (test (k, v) ≡ true)
  found [] h i k at = absurd cc
  found (e ∷ es) h i k at =
      go
      (λ n there.
      let r = found es (parts _ _ h).1 n k there in
      (r.0, found_later e es k (above e.0 es (parts _ _ h).0 n k there) ∙ r.1, r.2))
      (test e) refl i at
    where
      go : ((n : ℕ) → slice_get (chosen es) n ≡ Some k → (v : V) × (find R k (e ∷ es) ≡ Some v) × (test (k, v) ≡ true)) → (b : Bool) → test e ≡ b → (i : ℕ) → slice_get (cons_option (cond b (Some e.0) None) (chosen es)) i ≡ Some k → (v : V) × (find R k (e ∷ es) ≡ Some v) × (test (k, v) ≡ true)
      go later true t zero at =
          let same : e.0 ≡ k = some_is at in
          (e.1, subst (λ (j : K). find R j (e ∷ es) ≡ Some e.1) same (found_here e es), subst (λ (j : K). test (j, e.1) ≡ true) same t)
      go later true t (suc i) at = later i at
      go later false t i at = later i at

  -- each key is chosen once
  pub chosen_once : (m : FinMap R V) → StandOnce (filter_map (choosing test) (map.entries m))
  chosen_once m = once (map.entries m) (entries_sorted m)

  -- what stands at a chosen key passes the test
  pub chosen_there : (m : FinMap R V) (i : ℕ) (k : K) → slice_get (filter_map (choosing test) (map.entries m)) i ≡ Some k → (v : V) × (map.get m k ≡ Some v) × (test (k, v) ≡ true)
  chosen_there m i k at =
      let r = found (map.entries m) (entries_sorted m) i k at in
      (r.0, get-entries m k ∙ r.1, r.2)

none_is : {A : Type 0} (o : Option A) → is_none o ≡ true → o ≡ None
none_is None e = refl
none_is (Some x) e = absurd (true≢false (sym e))

not_empty : {A : Type 0} (xs : List A) → nat_lt 0 (length xs) ≡ true → xs ≢ []
not_empty xs t e = let no_item : false ≡ true = subst (λ (ys : List _). nat_lt 0 (length ys) ≡ true) e t in true≢false (sym no_item)

is_T : (b : Bool) → b ≡ true → T b
is_T true e = tt
is_T false e = absurd (true≢false (sym e))

module _ (c : Constants) (s : State) where
  abbrev back_test : ℕ × Queued → Bool
  back_test e = is_returnable c.settings.error e.1

  pub returnable_once : StandOnce (returnable c s)
  returnable_once = chosen_once numbers back_test s.post.entries

  pub can_return : (i n : ℕ) → slice_get (returnable c s) i ≡ Some n → CanReturn c s n
  can_return i n at =
      let r = chosen_there numbers back_test s.post.entries i n at in
      let t = both_true _ _ r.2 in
      let u = both_true _ _ t.1 in
      (r.0, r.1, (bytes_eq-Decides r.0.queue c.settings.error).0 t.0, none_is r.0.due u.0, not_empty (failed_queue r.0.envelope) u.1)

  abbrev gone_test : List ℕ × OutboxRow → Bool
  gone_test e = e.1.sent && nat_le (e.1.at + c.settings.retention) s.moment

  pub purgeable_once : StandOnce (purgeable s.tables c.settings.retention s.moment)
  purgeable_once = chosen_once names gone_test s.tables.outbox

  pub can_purge : (i : ℕ) (id : List ℕ) → slice_get (purgeable s.tables c.settings.retention s.moment) i ≡ Some id → CanPurge c s id
  can_purge i id at =
      let r = chosen_there names gone_test s.tables.outbox i id at in
      let t = both_true _ _ r.2 in
      (r.0, r.1, t.0, leb→le _ _ (is_T _ t.1))
