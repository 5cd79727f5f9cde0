-- What a start finds in the stores.
use Rattle.std.proofs.Common.{true≢false, ◌≡◌, ◌⊎◌, ℕ, ◌<◌, List, [], ◌∷◌, ◌++◌, Bool, true, false, Option, Some, None, refl, sym, ap, ◌∙◌, subst, inl, inr, arith}
use Rattle.std.specs.Prelude.{Contains, cond, T, ◌&&◌, bytes_eq, if◌then◌else◌, length, option_map, unwrap_or}
use Rattle.std.proofs.lemmas.Cmp.{nat_list_cmp_total}
use Rattle.std.proofs.lemmas.List.Elements.{Contains-append_left, Contains-append_right, Contains-append_cases}
use Rattle.std.specs.Cmp.{tied_itself}
use Rattle.std.specs.Cmp.Lexicographic.{slice_cmp}
use Rattle.std.specs.FinMap as map
use Rattle.std.specs.FinMap.{find, is_sorted}
use Rattle.std.specs.FinMap.Entries.{below_all}
use Rattle.std.specs.Ordering.{nat_cmp, is_lt, is_le, eq_by_cmp, ordering_reverse}
use Rattle.std.specs.declared.cmp.Ordering.{Ordering}
use Rattle.std.specs.declared.cmp.Ordering.TheVariants.{Less, Equal, Greater}
use Rattle.nb_base.proofs.Maps.{IsExact, numbers, places, itself, apart, same_or_other, at_same, at_other}
use Rattle.nb_base.specs.Meanings.{Meaning, AllFit}
use Rattle.nb_base.specs.Orders.{ByNumber}
use Rattle.nb_base.specs.Shown.{stored}
use Rattle.nb_base.specs.declared.saga_key.SagaKey.{SagaKey}
use Rattle.nb_base.specs.declared.saga_row.SagaRow.{SagaRow}
use Rattle.nb_base.specs.declared.tables.Tables.{Tables}
use Rattle.nb_hub.specs.Indexed.{IsIndexed, due_in, noted}
use Rattle.nb_cells.specs.Cells.{CellMap}
use Rattle.nb_base.specs.declared.entry.Which.TheVariants.{Base, Post}
use Rattle.nb_hub.specs.Starting.{saga_fits, IsUpTo, IsLeastMisfit, IsMisfitOf, AreFree, RefusesBase, RefusesPost, IsOfBase, IsOfPost, IsOfReading}
use Rattle.nb_hub.specs.declared.fault.StartFault.{StartFault}
use Rattle.nb_hub.specs.declared.fault.StartFault.TheVariants.{StoreFailed, PostFailed, Damaged, NoMemory}
use Rattle.nb_store.specs.Scanning.{Opens}
use Rattle.nb_base.specs.Meanings.{IsMeaning}
use Rattle.nb_base.specs.Sound.{IsSoundTables, IsSoundPost}
use Rattle.nb_base.specs.declared.settings.Settings.{Settings}
use Rattle.nb_base.specs.declared.tables.Discard.{Discard}
use Rattle.nb_base.specs.declared.tables.PostState.{PostState}
use Rattle.nb_core.proofs.Pasts.{legal_start}
use Rattle.nb_core.specs.Legal.{HasRoutes}
use Rattle.nb_core.specs.declared.phase.Phase.{Phase}
use Rattle.nb_core.specs.Standing.{number_of, phase_in}
use Rattle.nb_hub.specs.Kept.{Kept, IsNamed, held_state}
use Rattle.nb_hub.specs.Ledgers.{course, past_of, fixed_of}
use Rattle.nb_hub.specs.Starting.{opening_of, IsRead, Told, TellsOne}
use Rattle.nb_hub.specs.Stores.{BaseStands, PostStands}
use Rattle.nb_hub.specs.declared.ledger.Course.{Course}
use Rattle.nb_queue.specs.Maps as queue
use Rattle.nb_store.specs.CellMaps as table
use Rattle.nb_ready.specs.Seats.{Seats, fresh}
use Rattle.nb_ready.specs.declared.seat.Seat.{Seat}
use Rattle.nb_saga_store.specs.Spelled.{spelled_place}

-- ---- the entries of a map

first : (a b : Bool) → T (a && b) → T a
first true b p = tt
first false b p = p

second : (a b : Bool) → T (a && b) → T b
second true b p = p
second false b p = absurd p

less : (o : Ordering) → T (is_lt o) → o ≡ Less
less Less h = refl
less Equal h = absurd h
less Greater h = absurd h

here : {A : Type 0} (e x : A) (es : List A) → e ≡ x → Contains (e ∷ es) x
here e x es is = (0, omega arith, is)

only : {A : Type 0} (e x : A) → Contains (e ∷ []) x → e ≡ x
only {A} e x there = at there.0 there.1 there.2
  where
    at : (k : ℕ) → k < 1 → Rattle.std.specs.Prelude.slice_index_or (e ∷ []) k x ≡ x → e ≡ x
    at k low is = let zero : k ≡ 0 = omega (arith, low) in subst (λ (i : ℕ). Rattle.std.specs.Prelude.slice_index_or (e ∷ []) i x ≡ x) zero is

not_met : {K : Type 0} {R : K → K → Ordering} (x : IsExact R) (a b : K) → T (is_lt (R a b)) → eq_by_cmp R b a ≡ false
not_met {R = R} x a b h = apart x b a (λ same. let lower = less _ h in let tied = ap (R a) same ∙ tied_itself x.total a in let clash : Less ≡ Equal = sym lower ∙ tied in cc)

module _ {K V : Type 0} {R : K → K → Ordering} (x : IsExact R) where
  contains_find : (q : K) (v : V) (es : List (K × V)) → find R q es ≡ Some v → Contains es (q, v)
  contains_find q v [] is = absurd cc
  contains_find q v (e ∷ es) is = by_case (eq_by_cmp R q e.0) refl (contains_find q v es) is
    where
      by_case : (b : Bool) → eq_by_cmp R q e.0 ≡ b → (find R q es ≡ Some v → Contains es (q, v)) → cond b (Some e.1) (find R q es) ≡ Some v → Contains (e ∷ es) (q, v)
      by_case true at later is =
          let same : q ≡ e.0 = Rattle.nb_base.proofs.Maps.ties x q e.0 at in
          let value : e.1 ≡ v = cc in
          here e (q, v) es (ap (λ (k : K). (k, e.1)) (sym same) ∙ ap (λ (w : V). (q, w)) value)
      by_case false at later is = Contains-append_right (e ∷ []) es (q, v) (later is)

  -- what a map has under a key is one of its entries
  pub contained : (m : map.FinMap R V) (q : K) (v : V) → map.get m q ≡ Some v → Contains (map.entries m) (q, v)
  contained m q v is = contains_find q v (map.entries m) (sym (map.get-entries m q) ∙ is)

  below_last : (k : K) (es fs : List (K × V)) (e : K × V) → T (below_all R k (es ++ e ∷ fs)) → T (is_lt (R k e.0))
  below_last k [] fs e h = first _ _ h
  below_last k (y ∷ es) fs e h = below_last k es fs e (second _ _ h)

  find_entry : (es fs : List (K × V)) (e : K × V) → T (is_sorted R (es ++ e ∷ fs)) → find R e.0 (es ++ e ∷ fs) ≡ Some e.1
  find_entry [] fs e h = ap (λ b. cond b (Some e.1) (find R e.0 fs)) (itself x e.0)
  find_entry (y ∷ es) fs e h = ap (λ b. cond b (Some y.1) (find R e.0 (es ++ e ∷ fs))) (not_met x y.0 e.0 (below_last y.0 es fs e (first _ _ h))) ∙ find_entry es fs e (second _ _ h)

  -- an entry stands in the map under its key
  pub entry_stands : (m : map.FinMap R V) (es fs : List (K × V)) (e : K × V) → map.entries m ≡ es ++ e ∷ fs → map.get m e.0 ≡ Some e.1
  entry_stands m es fs e all = map.get-entries m e.0 ∙ ap (find R e.0) all ∙ find_entry es fs e (subst (λ xs. T (is_sorted R xs)) all (map.entries_sorted m))

-- ---- sagas that don't fit

pub up_to_itself : (a : List ℕ) → IsUpTo a a
up_to_itself a = ap is_le (tied_itself nat_list_cmp_total a)

-- what isn't before the other is up to it the other way round
pub up_to_later : (a b : List ℕ) → is_lt (slice_cmp nat_cmp b a) ≡ false → IsUpTo a b
up_to_later a b later = ap is_le (nat_list_cmp_total.antisymm a b) ∙ go (slice_cmp nat_cmp b a) later
  where
    go : (o : Ordering) → is_lt o ≡ false → is_le (ordering_reverse o) ≡ true
    go Less later = absurd cc
    go Equal later = refl
    go Greater later = refl

up_to_trans : (a b c : List ℕ) → IsUpTo a b → IsUpTo b c → IsUpTo a c
up_to_trans a b c one two = go (slice_cmp nat_cmp a b) (slice_cmp nat_cmp b c) refl refl one two
  where
    go : (o p : Ordering) → slice_cmp nat_cmp a b ≡ o → slice_cmp nat_cmp b c ≡ p → is_le o ≡ true → is_le p ≡ true → IsUpTo a c
    go Less Less h k one two = ap is_le (nat_list_cmp_total.trans a b c h k)
    go Less Equal h k one two =
        let back : slice_cmp nat_cmp c b ≡ Equal = nat_list_cmp_total.antisymm c b ∙ ap ordering_reverse k in
        let up : slice_cmp nat_cmp b a ≡ Greater = nat_list_cmp_total.antisymm b a ∙ ap ordering_reverse h in
        let over : slice_cmp nat_cmp c a ≡ Greater = nat_list_cmp_total.congr c b a back ∙ up in
        ap is_le (nat_list_cmp_total.antisymm a c ∙ ap ordering_reverse over)
    go Less Greater h k one two = absurd cc
    go Equal p h k one two = ap is_le (nat_list_cmp_total.congr a b c h ∙ k) ∙ two
    go Greater p h k one two = absurd cc

pub no_misfit : (meaning : Meaning) → IsLeastMisfit meaning [] None
no_misfit meaning e there = let low : there.0 < 0 = there.1 in absurd (omega (arith, low))

pub misfit_same : (meaning : Meaning) (es : List (SagaKey × SagaRow)) (e : SagaKey × SagaRow) (o : Option (List ℕ)) → IsLeastMisfit meaning es o → saga_fits meaning e ≡ true → IsLeastMisfit meaning (es ++ e ∷ []) o
misfit_same meaning es e None h fits =
    λ x there. elim (Contains-append_cases es (e ∷ []) x there) [
      | inl before ↦ h x before
      | inr now ↦ ap (saga_fits meaning) (sym (only e x now)) ∙ fits
    ]
misfit_same meaning es e (Some key) h fits = (
  (h.0.0, Contains-append_left es (e ∷ []) h.0.0 h.0.1, h.0.2, h.0.3),
  λ x there bad. elim (Contains-append_cases es (e ∷ []) x there) [
    | inl before ↦ h.1 x before bad
    | inr now ↦ let clash : true ≡ false = sym fits ∙ ap (saga_fits meaning) (only e x now) ∙ bad in absurd cc
  ],
)

pub misfit_more : (meaning : Meaning) (es : List (SagaKey × SagaRow)) (e : SagaKey × SagaRow) (o : Option (List ℕ)) (key r : List ℕ) → IsLeastMisfit meaning es o → saga_fits meaning e ≡ false → key ≡ spelled_place e.0
    → (r ≡ key) ⊎ (o ≡ Some r) → IsUpTo r key → ((l : List ℕ) → o ≡ Some l → IsUpTo r l) → IsLeastMisfit meaning (es ++ e ∷ []) (Some r)
misfit_more meaning es e o key r h bad is one up least = (
  found one,
  λ x there wrong. elim (Contains-append_cases es (e ∷ []) x there) [
    | inl before ↦ older o h (λ l at. least l at) x before wrong
    | inr now ↦ subst (λ (y : SagaKey × SagaRow). IsUpTo r (spelled_place y.0)) (only e x now) (subst (IsUpTo r) is up)
  ],
)
  where
    old_one : (o : Option (List ℕ)) → IsLeastMisfit meaning es o → o ≡ Some r → (x : SagaKey × SagaRow) × Contains (es ++ e ∷ []) x × (saga_fits meaning x ≡ false) × (r ≡ spelled_place x.0)
    old_one None h is = absurd cc
    old_one (Some l) h is = let same : r ≡ l = cc in (h.0.0, Contains-append_left es (e ∷ []) h.0.0 h.0.1, h.0.2, same ∙ h.0.3)

    found : (r ≡ key) ⊎ (o ≡ Some r) → (x : SagaKey × SagaRow) × Contains (es ++ e ∷ []) x × (saga_fits meaning x ≡ false) × (r ≡ spelled_place x.0)
    found (inl new) = (e, Contains-append_right es (e ∷ []) e (here e e [] refl), bad, new ∙ is)
    found (inr old) = old_one o h old

    older : (o : Option (List ℕ)) → IsLeastMisfit meaning es o → ((l : List ℕ) → o ≡ Some l → IsUpTo r l) → (x : SagaKey × SagaRow) → Contains es x → saga_fits meaning x ≡ false → IsUpTo r (spelled_place x.0)
    older None h least x before wrong = let fits = h x before in let clash : true ≡ false = sym fits ∙ wrong in absurd cc
    older (Some l) h least x before wrong = up_to_trans r l (spelled_place x.0) (least l refl) (h.1 x before wrong)

pub all_fit : (meaning : Meaning) (t : Tables) → IsLeastMisfit meaning (map.entries t.sagas) None → AllFit meaning (stored t)
all_fit meaning t h place row there = h (place, row) (contained places t.sagas place row there)

-- ---- the index

pub none_indexed : (own : List ℕ) → IsIndexed own map.empty map.empty
none_indexed own n = ap (option_map (λ (s : Seat). s.due)) (map.get-empty nat_cmp n) ∙ sym (ap (due_in own) (map.get-empty nat_cmp n))

pub none_held : AreFree map.empty
none_held n s there = let none : None ≡ Some s = sym (map.get-empty nat_cmp n) ∙ there in absurd cc

pub free_noted : (own : List ℕ) (seats : Seats) (n : ℕ) (queue : List ℕ) (due : Option ℕ) → AreFree seats → AreFree (noted own seats n queue due)
free_noted own seats n queue due free = by_case (bytes_eq queue own)
  where
    by_case : (b : Bool) → AreFree (if b then map.insert seats n (fresh due) else seats)
    by_case true =
        λ q s there. elim (same_or_other numbers q n) [
          | inl same ↦
              let new : Some (fresh due) ≡ Some s = sym (at_same numbers seats n (fresh due)) ∙ ap (map.get (map.insert seats n (fresh due))) (sym same) ∙ there in
              let is : fresh due ≡ s = cc in
              ap (λ (x : Seat). x.held) (sym is)
          | inr other ↦ free q s (sym (at_other numbers seats n (fresh due) q other) ∙ there)
        ]
    by_case false = free

-- ---- why a start is refused

pub misfit_refuses : (meaning : Meaning) (m : CellMap) (t : Tables) (fault : StartFault) → IsMisfitOf meaning t fault → Opens m t → RefusesBase meaning m fault
misfit_refuses meaning m t StoreFailed h opens = absurd h
misfit_refuses meaning m t PostFailed h opens = absurd h
misfit_refuses meaning m t (Damaged Base space key) h opens = inr (record { tables = t; opens = opens; space_is = h.0; least = h.1 })
misfit_refuses meaning m t (Damaged Post space key) h opens = absurd h
misfit_refuses meaning m t NoMemory h opens = tt

pub base_by_reading : (meaning : Meaning) (m : CellMap) (fault : StartFault) → IsOfReading fault → RefusesBase meaning m fault
base_by_reading meaning m StoreFailed h = tt
base_by_reading meaning m PostFailed h = tt
base_by_reading meaning m (Damaged store space key) h = absurd h
base_by_reading meaning m NoMemory h = tt

pub post_by_reading : (m : CellMap) (fault : StartFault) → IsOfReading fault → RefusesPost m fault
post_by_reading m StoreFailed h = tt
post_by_reading m PostFailed h = tt
post_by_reading m (Damaged store space key) h = absurd h
post_by_reading m NoMemory h = tt

pub post_by_base : (m : CellMap) (fault : StartFault) → IsOfBase fault → RefusesPost m fault
post_by_base m StoreFailed h = tt
post_by_base m PostFailed h = tt
post_by_base m (Damaged Base space key) h = tt
post_by_base m (Damaged Post space key) h = absurd h
post_by_base m NoMemory h = tt

-- where the base was taken, only the post is at fault
pub base_by_post : (meaning : Meaning) (m : CellMap) (t : Tables) (fault : StartFault) → IsOfPost fault → Opens m t → AllFit meaning (stored t) → RefusesBase meaning m fault
base_by_post meaning m t StoreFailed h opens fit = tt
base_by_post meaning m t PostFailed h opens fit = tt
base_by_post meaning m t (Damaged Base space key) h opens fit = absurd h
base_by_post meaning m t (Damaged Post space key) h opens fit = (t, opens, fit)
base_by_post meaning m t NoMemory h opens fit = tt

-- the base was refused, and the post read beside it
pub refuses_base : (meaning : Meaning) (m : CellMap) (fault found : StartFault) → (found ≡ fault) ⊎ IsOfReading found → RefusesBase meaning m fault → RefusesBase meaning m found
refuses_base meaning m fault found (inl same) h = subst (RefusesBase meaning m) (sym same) h
refuses_base meaning m fault found (inr reading) h = base_by_reading meaning m found reading

pub refuses_post : (m : CellMap) (fault found : StartFault) → (found ≡ fault) ⊎ IsOfReading found → IsOfBase fault → RefusesPost m found
refuses_post m fault found (inl same) h = subst (RefusesPost m) (sym same) (post_by_base m fault h)
refuses_post m fault found (inr reading) h = post_by_reading m found reading

-- the base failed, and the post was not read
pub failed_alone : (fault found : StartFault) → (found ≡ fault) ⊎ IsOfReading found → found ≡ StoreFailed → fault ≡ StoreFailed
failed_alone fault found (inl same) is = sym same ∙ is
failed_alone fault StoreFailed (inr reading) is = absurd reading
failed_alone fault PostFailed (inr reading) is = absurd cc
failed_alone fault (Damaged store space key) (inr reading) is = absurd reading
failed_alone fault NoMemory (inr reading) is = absurd cc

-- ---- what a hub keeps at its start

none_named : (n : ℕ) → IsNamed map.empty n → ⊥
none_named n named = let none : None ≡ Some n = sym (ap number_of (idle named.0)) ∙ named.1 in absurd cc
  where
    idle : (w : ℕ) → phase_in map.empty w ≡ Rattle.nb_core.specs.declared.phase.Phase.TheVariants.Idle
    idle w = ap (λ (o : Option Phase). unwrap_or o Rattle.nb_core.specs.declared.phase.Phase.TheVariants.Idle) (map.get-empty nat_cmp w)

kept_first : (meaning : Meaning) (settings : Settings) (turns workers moment base post : ℕ) (t : Tables) (q : PostState) (own : List ℕ) (seats : Seats)
    → IsMeaning meaning → HasRoutes (record { meaning = meaning; settings = settings }) → IsSoundTables t → IsSoundPost q → AllFit meaning (stored t) → own ≡ settings.endpoint → AreFree seats
    → Kept (past_of meaning (course settings turns (opening_of t q moment workers) base post [] false)) (held_state t q moment map.empty map.empty map.empty []) own seats base post
kept_first meaning settings turns workers moment base post t q own seats means routes sound_tables sound_post fit own_is free = record {
  means = means;
  legal = legal_start (fixed_of meaning settings turns (opening_of t q moment workers) base post) routes (record { tables = sound_tables; post = sound_post; fits = fit });
  state = refl;
  own_is = own_is;
  held = λ n s there. (λ held. absurd (true≢false (sym held ∙ free n s there)), λ named. absurd (none_named n named));
  short = omega arith;
  counted = record {
    base_later = omega arith;
    post_later = omega arith;
    base_rose = λ is. absurd cc;
    post_rose = λ is. absurd cc;
  };
}

pub kept_at_start : (meaning : Meaning) (settings : Settings) (turns workers moment : ℕ) (k : Course) (tables t : Tables) (state q : PostState) (phases : ByNumber Phase) (fails : ByNumber ℕ) (back : ByNumber (Unit {0})) (given : List Discard) (b base p post : ℕ) (own : List ℕ) (seats : Seats)
    → k ≡ course settings turns (opening_of tables state moment workers) b p [] false → tables ≡ t → state ≡ q → phases ≡ map.empty → fails ≡ map.empty → back ≡ map.empty → given ≡ [] → b ≡ base → p ≡ post
    → IsMeaning meaning → HasRoutes (record { meaning = meaning; settings = settings }) → IsSoundTables t → IsSoundPost q → AllFit meaning (stored t) → own ≡ settings.endpoint → AreFree seats
    → Kept (past_of meaning k) (held_state t q moment phases fails back given) own seats base post
kept_at_start meaning settings turns workers moment k tables t state q phases fails back given b base p post own seats is tables_are state_is none no_fails none_back none_given base_is post_is means routes sound_tables sound_post fit own_is free =
    let first = kept_first meaning settings turns workers moment base post t q own seats means routes sound_tables sound_post fit own_is free in
    let same : k ≡ course settings turns (opening_of t q moment workers) base post [] false =
    is ∙ ap (λ (x : Tables). course settings turns (opening_of x state moment workers) b p [] false) tables_are ∙ ap (λ (x : PostState). course settings turns (opening_of t x moment workers) b p [] false) state_is
    ∙ ap (λ (x : ℕ). course settings turns (opening_of t q moment workers) x p [] false) base_is ∙ ap (λ (x : ℕ). course settings turns (opening_of t q moment workers) base x [] false) post_is in
    subst (λ (x : Course). Kept (past_of meaning x) (held_state t q moment phases fails back given) own seats base post) (sym same)
    (subst (λ (x : ByNumber Phase). Kept (past_of meaning (course settings turns (opening_of t q moment workers) base post [] false)) (held_state t q moment x fails back given) own seats base post) (sym none)
    (subst (λ (x : ByNumber ℕ). Kept (past_of meaning (course settings turns (opening_of t q moment workers) base post [] false)) (held_state t q moment map.empty x back given) own seats base post) (sym no_fails)
    (subst (λ (x : ByNumber (Unit {0})). Kept (past_of meaning (course settings turns (opening_of t q moment workers) base post [] false)) (held_state t q moment map.empty map.empty x given) own seats base post) (sym none_back)
    (subst (λ (x : List Discard). Kept (past_of meaning (course settings turns (opening_of t q moment workers) base post [] false)) (held_state t q moment map.empty map.empty map.empty x) own seats base post) (sym none_given) first))))

-- ---- what stands in the stores at a start

module _ {C : Type 0} {honest : C → Type 0} {now images : C → CellMap → Type 0} {firm : C → Type 0} {count : C → ℕ} (old new : C) (meaning : Meaning) (k : Course) (settings : Settings) (turns b p : ℕ) (o : Rattle.nb_core.specs.declared.history.Opening.Opening) (m : CellMap)
    (is : k ≡ course settings turns o b p [] false) (read : IsRead honest now images firm count old new) (tells : TellsOne now images firm old m) where
  pub base_first : (Told honest now firm old new m → table.HasCells m o.tables) → BaseStands honest now images firm new (past_of meaning k)
  base_first cells = subst (λ (x : Course). BaseStands honest now images firm new (past_of meaning x)) (sym is) (λ honest_is.
      let has = cells (record { honest_is = honest_is; firm_is = tells.firm_is; now_is = tells.now_is }) in
      record {
        firm_is = read.kept_firm honest_is tells.firm_is;
        map = m;
        told = read.kept m honest_is tells.firm_is tells.now_is;
        has = has;
        only = λ n image space key within. tells.only n (read.fewer n honest_is image) space key within ∙ has space key within;
      })

  pub post_first : (Told honest now firm old new m → queue.HasCells m o.post) → PostStands honest now images firm new (past_of meaning k)
  post_first cells = subst (λ (x : Course). PostStands honest now images firm new (past_of meaning x)) (sym is) (λ honest_is.
      let has = cells (record { honest_is = honest_is; firm_is = tells.firm_is; now_is = tells.now_is }) in
      record {
        firm_is = read.kept_firm honest_is tells.firm_is;
        map = m;
        told = read.kept m honest_is tells.firm_is tells.now_is;
        has = has;
        only = λ n image space key within. tells.only n (read.fewer n honest_is image) space key within ∙ has space key within;
      })
