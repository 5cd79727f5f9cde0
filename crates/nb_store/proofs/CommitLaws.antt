-- A commit: its changes of cells, and the tables that it leaves.
use Rattle.std.specs.Prelude.{◌≡◌, ◌≢◌, ◌⊎◌, ◌≤◌, ◌<◌, ◌==◌, ℕ, ◌+◌, List, [], ◌∷◌, ◌++◌, map as map_list, fold, length, Bool, true, false, cond, bytes_eq, Result, Ok, Err, Option, Some, None, refl}
use Rattle.std.proofs.Common.{◌∙◌, ap, sym, subst, arith, inl, inr, append_assoc}
use Rattle.std.specs.Cmp.Lexicographic.{bytes_decides}
use Rattle.std.specs.FinMap as map
use Rattle.std.specs.List.{AllByRecursion, IsDistinct}
use Rattle.std.proofs.lemmas.List.Elements.{All-from_recursion}
use Rattle.nb_base.proofs.Maps.{names, same_or_other, at_same, at_other, gone, kept}
use Rattle.nb_base.specs.Meanings.{Place, saga_at, row_at, place_of as write_place}
use Rattle.nb_base.specs.Orders.{ByName}
use Rattle.nb_base.specs.Shown.{Stored, stored}
use Rattle.nb_base.specs.Sound.{IsSoundTables}
use Rattle.nb_base.specs.declared.entry.Op.{Op}
use Rattle.nb_base.specs.declared.entry.OutboxRow.{OutboxRow}
use Rattle.nb_base.specs.declared.plan.Write.{Write}
use Rattle.nb_base.specs.declared.plan.Write.TheVariants as write
use Rattle.nb_base.specs.declared.saga_key.SagaKey.{SagaKey}
use Rattle.nb_base.specs.declared.saga_row.SagaRow.{SagaRow}
use Rattle.nb_base.specs.declared.tables.Tables.{Tables}
use Rattle.nb_cells.specs.Cells.{CellMap, IsSpace, AreInSpaces, AreDistinct, space_of, place_of as change_place, with_change, changed}
use Rattle.nb_cells.specs.declared.change.Change.{Change}
use Rattle.nb_cells.specs.declared.change.Change.TheVariants.{Put}
use Rattle.nb_envelope.specs.Spelling.{IsText, IsValue}
use Rattle.nb_outbox.specs.Spelled.{spelled_record, sent_record, IsId, IsRecord}
use Rattle.nb_saga_store.proofs.MapLaws.{spelled-insert, write_all, write_spelled, elsewhere, same_place, each-insert}
use Rattle.nb_saga_store.specs.Maps.{HaveStored, AreSpelled}
use Rattle.nb_saga_store.specs.Spelled.{spelled_place}
use Rattle.nb_saga_store.specs.Writes.{id_of, written_of, with_written, all_written, change_of, changes_of, CanWrite}
use Rattle.nb_saga_store.specs.Written.{IsSpelled}
use Rattle.nb_saga_store.specs.declared.written.Written.{Written}
use Rattle.nb_saga_store.specs.declared.written.Written.TheVariants.{Saga, SagaGone, Row, RowGone}
use Rattle.nb_store.specs.Applied.{Applied, Leads}
use Rattle.nb_store.specs.Batches.{Among, Content, version_of, saga_found, row_found, place_of, content_of, IsOf, AreOf, AreApart, IsWider, IsOlder, AreWiderIds, links_of, touched_ids, linked, AreSwept, after_batch, IsBatch}
use Rattle.nb_store.specs.Calls.{HaveApartPlaces, new_record, handled, marked, commit_changes}
use Rattle.nb_store.specs.CellMaps.{cells, count_bytes, spelled_count}
use Rattle.nb_store.specs.Kept.{IsKept, IsRecordAt}
use Rattle.nb_store.specs.declared.batch.Batch.{Batch}
use Rattle.nb_store.specs.declared.fault.StoreFault.{StoreFault}
use Rattle.nb_store.specs.declared.fault.StoreFault.TheVariants.{Failed, NoMemory, Spent}
use Rattle.nb_store.proofs.BatchLaws.{all_written-fold, touched, saga_back, wider_same}
use Rattle.nb_store.proofs.CellLaws.{by_space, one_ok, two_ok, three_ok, four_ok, stored_has, some_count}
use Rattle.nb_store.proofs.ChangeLaws.{alone_id}
use Rattle.nb_store.proofs.LinkLaws.{index_after, back_as_before}

-- ---- writes and what they leave

abbrev left : List ℕ → ℕ → List Write → List Written
left endpoint n ws = map_list (written_of endpoint n) ws

pub same_places : (endpoint : List ℕ) (n : ℕ) (w : Write) → place_of (written_of endpoint n w) ≡ write_place w
same_places endpoint n (write.SagaPut saga corr revision which originator original fields) = refl
same_places endpoint n (write.SagaErase saga corr) = refl
same_places endpoint n (write.RowPut name value) = refl
same_places endpoint n (write.RowErase name) = refl

apart_one : (endpoint : List ℕ) (n : ℕ) (w : Write) (ws : List Write) → AllByRecursion (λ v. write_place w ≢ write_place v) ws → AllByRecursion (λ v. place_of (written_of endpoint n w) ≢ place_of v) (left endpoint n ws)
apart_one endpoint n w [] all = tt
apart_one endpoint n w (v ∷ ws) all = (λ e. all.0 (sym (same_places endpoint n w) ∙ e ∙ same_places endpoint n v), apart_one endpoint n w ws all.1)

pub apart_left : (endpoint : List ℕ) (n : ℕ) (ws : List Write) → HaveApartPlaces ws → AreApart (left endpoint n ws)
apart_left endpoint n [] apart = tt
apart_left endpoint n (w ∷ ws) apart = (apart_one endpoint n w ws apart.0, apart_left endpoint n ws apart.1)

of_one : (endpoint : List ℕ) (n : ℕ) (w : Write) → IsOf n (content_of (written_of endpoint n w))
of_one endpoint n (write.SagaPut saga corr revision which originator original fields) = refl
of_one endpoint n (write.SagaErase saga corr) = tt
of_one endpoint n (write.RowPut name value) = refl
of_one endpoint n (write.RowErase name) = tt

pub of_left : (endpoint : List ℕ) (n : ℕ) (ws : List Write) → AreOf n (left endpoint n ws)
of_left endpoint n [] = tt
of_left endpoint n (w ∷ ws) = (of_one endpoint n w, of_left endpoint n ws)

-- ---- what sound tables say of the writes that led to them

saga_written : (endpoint : List ℕ) (n : ℕ) (t : Stored) (ws : List Written) (place : SagaKey) (row : SagaRow) → AreApart ws → Among (Saga place row) ws → map.get (fold with_written t ws).sagas place ≡ Some row
saga_written endpoint n t ws place row apart a = saga_back (map.get (fold with_written t ws).sagas place) (Some row) (touched ws t (Saga place row) apart a)

can_write_one : (endpoint : List ℕ) (t : Tables) (id : List ℕ) (all : List Write) (r : OutboxRow) (w : Write) → HaveApartPlaces all → IsSoundTables (handled endpoint t id all r)
    → Among (written_of endpoint (t.commits + 1) w) (left endpoint (t.commits + 1) all) → CanWrite w
can_write_one endpoint t id all r (write.SagaPut saga corr revision which originator original fields) apart sound a =
    let n = t.commits + 1 in
    let place : SagaKey = record { saga = saga; corr = corr } in
    let row : SagaRow = record { corr = corr; id = id_of endpoint n which; version = n; revision = revision; originator = originator; original = original; fields = fields } in
    let at : map.get (all_written endpoint n (stored t) all).sagas place ≡ Some row =
    ap (λ (s : Stored). map.get s.sagas place) (all_written-fold endpoint n (stored t) all) ∙ saga_written endpoint n (stored t) (left endpoint n all) place row (apart_left endpoint n all apart) a in
    let s = sound.base.sagas place row at in
    (s.kind, s.revision, s.fields)
can_write_one endpoint t id all r (write.SagaErase saga corr) apart sound a = tt
can_write_one endpoint t id all r (write.RowPut name value) apart sound a = tt
can_write_one endpoint t id all r (write.RowErase name) apart sound a = tt

pub can_write : (endpoint : List ℕ) (t : Tables) (id : List ℕ) (ws : List Write) (r : OutboxRow) → HaveApartPlaces ws → IsSoundTables (handled endpoint t id ws r) → AllByRecursion CanWrite ws
can_write endpoint t id ws r apart sound = go [] ws refl
  where
    n : ℕ
    n = t.commits + 1

    later : (before : List Write) (w : Write) (more : List Write) → Among (written_of endpoint n w) (left endpoint n (before ++ w ∷ more))
    later [] w more = inl refl
    later (b ∷ before) w more = inr (later before w more)

    go : (before more : List Write) → before ++ more ≡ ws → AllByRecursion CanWrite more
    go before [] e = tt
    go before (w ∷ more) e = (
      can_write_one endpoint t id ws r w apart sound (subst (λ xs. Among (written_of endpoint n w) (left endpoint n xs)) e (later before w more)),
      go (before ++ w ∷ []) more (append_assoc before (w ∷ []) more ∙ e),
    )

record_there : (endpoint : List ℕ) (t : Tables) (id : List ℕ) (ws : List Write) (r : OutboxRow) → map.get (handled endpoint t id ws r).outbox id ≡ Some r
record_there endpoint t id ws r = at_same names t.outbox id r

pub handled_named : (endpoint : List ℕ) (t : Tables) (id : List ℕ) (ws : List Write) (r : OutboxRow) → IsSoundTables (handled endpoint t id ws r) → id ≢ []
handled_named endpoint t id ws r sound = (sound.records id r (record_there endpoint t id ws r)).named

pub handled_queues : (endpoint : List ℕ) (t : Tables) (id : List ℕ) (ws : List Write) (r : OutboxRow) → IsSoundTables (handled endpoint t id ws r) → AllByRecursion (λ (op : Op). op.queue ≢ []) r.ops
handled_queues endpoint t id ws r sound = (sound.records id r (record_there endpoint t id ws r)).queues

pub handled_sent : (endpoint : List ℕ) (t : Tables) (id : List ℕ) (ws : List Write) (r : OutboxRow) → IsSoundTables (handled endpoint t id ws r) → r.sent ≡ true → r.ops ≡ []
handled_sent endpoint t id ws r sound = (sound.records id r (record_there endpoint t id ws r)).sent

-- ---- the places of the changes

heads : (a b : ℕ) (xs ys : List ℕ) → a ∷ xs ≡ b ∷ ys → a ≡ b
heads a b xs ys e = cc

below_heads : (a b : ℕ) (xs ys : List ℕ) → a < b → a ∷ xs ≡ b ∷ ys → ⊥
below_heads a b xs ys lt e = let h : a ≡ b = heads a b xs ys e in omega arith

above_heads : (a b : ℕ) (xs ys : List ℕ) → b < a → a ∷ xs ≡ b ∷ ys → ⊥
above_heads a b xs ys lt e = let h : a ≡ b = heads a b xs ys e in omega arith

abbrev cell_place : Place → List ℕ
cell_place (saga_at place) = 2 ∷ spelled_place place
cell_place (row_at name) = 3 ∷ name

change_at : (w : Written) → change_place (change_of w) ≡ cell_place (place_of w)
change_at (Saga place row) = refl
change_at (SagaGone place) = refl
change_at (Row name row) = refl
change_at (RowGone name) = refl

abbrev HasSpelling : Place → Type 0
HasSpelling (saga_at place) = IsText place.saga × IsValue place.corr
HasSpelling (row_at name) = Unit {0}

has_spelling : (w : Written) → IsSpelled w → HasSpelling (place_of w)
has_spelling (Saga place row) is = (is.1.0, is.1.1)
has_spelling (SagaGone place) is = is
has_spelling (Row name row) is = tt
has_spelling (RowGone name) is = tt

same_cells : (p q : Place) → HasSpelling p → HasSpelling q → cell_place p ≡ cell_place q → p ≡ q
same_cells (saga_at p) (saga_at q) a b e = ap saga_at (same_place p q a b cc)
same_cells (saga_at p) (row_at q) a b e = absurd (below_heads 2 3 (spelled_place p) q (omega arith) e)
same_cells (row_at p) (saga_at q) a b e = absurd (above_heads 3 2 p (spelled_place q) (omega arith) e)
same_cells (row_at p) (row_at q) a b e = ap row_at cc

other_bytes : (a b : List ℕ) → a ≢ b → bytes_eq a b ≡ false
other_bytes a b ne = go (bytes_eq a b) refl
  where
    go : (x : Bool) → bytes_eq a b ≡ x → bytes_eq a b ≡ false
    go true e = absurd (ne ((bytes_decides a b).0 e))
    go false e = e

cells_apart : (v w : Written) → IsSpelled v → IsSpelled w → place_of v ≢ place_of w → bytes_eq (change_place (change_of v)) (change_place (change_of w)) ≡ false
cells_apart v w a b ne =
    other_bytes (change_place (change_of v)) (change_place (change_of w))
    (λ e. ne (same_cells (place_of v) (place_of w) (has_spelling v a) (has_spelling w b) (sym (change_at v) ∙ e ∙ change_at w)))

abbrev last_two : List ℕ → OutboxRow → List Change
last_two id r = Put 4 id (spelled_record r) ∷ Put 1 [] (spelled_count r.n) ∷ []

apart_last : (w : Written) (id : List ℕ) (r : OutboxRow) → AllByRecursion (λ y. bytes_eq (change_place (change_of w)) y ≡ false) (map_list change_place (last_two id r))
apart_last w id r = subst (λ p. AllByRecursion (λ y. bytes_eq p y ≡ false) (map_list change_place (last_two id r))) (sym (change_at w)) (go (place_of w))
  where
    go : (p : Place) → AllByRecursion (λ y. bytes_eq (cell_place p) y ≡ false) (map_list change_place (last_two id r))
    go (saga_at place) = (
      other_bytes (2 ∷ spelled_place place) (4 ∷ id) (below_heads 2 4 (spelled_place place) id (omega arith)),
      (other_bytes (2 ∷ spelled_place place) (1 ∷ []) (above_heads 2 1 (spelled_place place) [] (omega arith)), tt),
    )
    go (row_at name) = (other_bytes (3 ∷ name) (4 ∷ id) (below_heads 3 4 name id (omega arith)), (other_bytes (3 ∷ name) (1 ∷ []) (above_heads 3 1 name [] (omega arith)), tt))

apart_changes : (w : Written) (ws : List Written) (id : List ℕ) (r : OutboxRow) → IsSpelled w → AllByRecursion IsSpelled ws → AllByRecursion (λ v. place_of w ≢ place_of v) ws
    → AllByRecursion (λ y. bytes_eq (change_place (change_of w)) y ≡ false) (map_list change_place (map_list change_of ws ++ last_two id r))
apart_changes w [] id r one all apart = apart_last w id r
apart_changes w (v ∷ ws) id r one all apart = (cells_apart w v one all.0 apart.0, apart_changes w ws id r one all.1 apart.1)

pub distinct_changes : (ws : List Written) (id : List ℕ) (r : OutboxRow) → AreApart ws → AllByRecursion IsSpelled ws → AreDistinct (map_list change_of ws ++ last_two id r)
unfolding IsDistinct
distinct_changes [] id r apart all = ((other_bytes (4 ∷ id) (1 ∷ []) (above_heads 4 1 id [] (omega arith)), tt), (tt, tt))
distinct_changes (w ∷ ws) id r apart all = (apart_changes w ws id r all.0 all.1 apart.0, distinct_changes ws id r apart.1 all.1)

space_ok : (w : Written) → IsSpace (space_of (change_of w))
space_ok (Saga place row) = two_ok
space_ok (SagaGone place) = two_ok
space_ok (Row name row) = three_ok
space_ok (RowGone name) = three_ok

spaces_ok : (ws : List Written) (id : List ℕ) (r : OutboxRow) → AllByRecursion (λ c. IsSpace (space_of c)) (map_list change_of ws ++ last_two id r)
spaces_ok [] id r = (four_ok, (one_ok, tt))
spaces_ok (w ∷ ws) id r = (space_ok w, spaces_ok ws id r)

-- ---- the cells after the changes

map_map : (endpoint : List ℕ) (n : ℕ) (ws : List Write) → changes_of endpoint n ws ≡ map_list change_of (left endpoint n ws)
map_map endpoint n [] = refl
map_map endpoint n (w ∷ ws) = ap (λ cs. change_of (written_of endpoint n w) ∷ cs) (map_map endpoint n ws)

changed_append : (xs ys : List Change) (m : CellMap) → changed (xs ++ ys) m ≡ changed ys (changed xs m)
changed_append [] ys m = refl
changed_append (x ∷ xs) ys m = changed_append xs ys (with_change m x)

same_changes : (endpoint : List ℕ) (id : List ℕ) (ws : List Write) (r : OutboxRow) → commit_changes endpoint id ws r ≡ changes_of endpoint r.n ws ++ last_two id r
same_changes endpoint id ws r = append_assoc (changes_of endpoint r.n ws) (Put 4 id (spelled_record r) ∷ []) (Put 1 [] (spelled_count r.n) ∷ [])

count_new : (n old : ℕ) (key : List ℕ) (o : Option (List ℕ)) → 1 ≤ n → o ≡ count_bytes old key → cond (bytes_eq key []) (Some (spelled_count n)) o ≡ count_bytes n key
count_new n old [] o from has = sym (some_count n from)
count_new n old (k ∷ key) o from has = has ∙ rw past refl
  where
    past : (length (k ∷ key) == 0) ≡ false
    past = grind arith

pub commit_leads : (endpoint : List ℕ) (t : Tables) (id : List ℕ) (ws : List Write) (r : OutboxRow) → AreSpelled (stored t) → AllByRecursion (λ w. IsSpelled (written_of endpoint (t.commits + 1) w)) ws → r.n ≡ t.commits + 1
    → Leads (changes_of endpoint (t.commits + 1) ws ++ last_two id r) t (handled endpoint t id ws r)
commit_leads endpoint t id ws r are all number m has space key is =
    ap (λ (f : CellMap). f space key) (changed_append (changes_of endpoint n ws) (last_two id r) m)
    ∙ by_space (λ s. changed (last_two id r) after s key ≡ cells (handled endpoint t id ws r) s key) counts (now.sagas key) (now.rows key) records space is
  where
    n : ℕ
    n = t.commits + 1

    after : CellMap
    after = changed (changes_of endpoint n ws) m

    now : HaveStored (changed (changes_of endpoint n ws) m) (all_written endpoint n (stored t) ws)
    now = (write_all endpoint n m (stored t) ws are all (stored_has m t has)).0

    from : 1 ≤ r.n
    from = omega (arith, number)

    counts : cond (bytes_eq key []) (Some (spelled_count r.n)) (changed (changes_of endpoint n ws) m 1 key) ≡ count_bytes (t.commits + 1) key
    counts = count_new r.n t.commits key (changed (changes_of endpoint n ws) m 1 key) from (elsewhere endpoint n m ws 1 key refl refl ∙ has 1 key one_ok) ∙ ap (λ k. count_bytes k key) number

    records : cond (bytes_eq key id) (Some (spelled_record r)) (changed (changes_of endpoint n ws) m 4 key) ≡ cells (handled endpoint t id ws r) 4 key
    records =
        ap (cond (bytes_eq key id) (Some (spelled_record r))) (elsewhere endpoint n m ws 4 key refl refl ∙ has 4 key four_ok)
        ∙ sym (spelled-insert names (λ x. x) spelled_record t.outbox id r (alone_id id (map.entries t.outbox)) key)

-- ---- the batch of a commit

pub after_handled : (endpoint : List ℕ) (t : Tables) (id : List ℕ) (ws : List Write) (r : OutboxRow) (b : Batch) → b.id ≡ id → b.writes ≡ left endpoint (t.commits + 1) ws → after_batch t b r ≡ handled endpoint t id ws r
after_handled endpoint t id ws r b named writes =
    let s : fold with_written (stored t) b.writes ≡ all_written endpoint (t.commits + 1) (stored t) ws = ap (fold with_written (stored t)) writes ∙ sym (all_written-fold endpoint (t.commits + 1) (stored t) ws) in
    λ i. record { sagas = (s i).sagas; rows = (s i).rows; outbox = map.insert t.outbox (named i) r; commits = t.commits + 1 }

pub is_batch : (endpoint : List ℕ) (t : Tables) (id : List ℕ) (ws : List Write) (r : OutboxRow) (b : Batch) → AreSpelled (stored t) → map.get t.outbox id ≡ None → HaveApartPlaces ws → IsSoundTables (handled endpoint t id ws r)
    → r.n ≡ t.commits + 1 → b.id ≡ id → b.writes ≡ left endpoint (t.commits + 1) ws → b.changes ≡ commit_changes endpoint id ws r → AllByRecursion (λ w. IsSpelled (written_of endpoint (t.commits + 1) w)) ws
    → IsId id × IsRecord r → b.links ≡ links_of b.writes → b.names ≡ touched_ids t.sagas b.writes → IsBatch t b r
is_batch endpoint t id ws r b are unrecorded apart sound number named writes changes all spelled links names_are = record {
  sound = subst IsSoundTables (sym after) sound;
  apart = subst AreApart (sym writes) (apart_left endpoint n ws apart);
  versions = subst (AreOf n) (sym writes) (of_left endpoint n ws);
  spelled = subst (λ u. AreSpelled (stored u)) (sym after) (record { sagas = (write_spelled endpoint n (stored t) ws are all).sagas; rows = (write_spelled endpoint n (stored t) ws are all).rows });
  unrecorded = ap (map.get t.outbox) named ∙ unrecorded;
  named = subst IsId (sym named) spelled.0;
  handled = spelled.1;
  links = links;
  names = names_are;
  spaces = subst AreInSpaces (sym as_left) (All-from_recursion (λ c. IsSpace (space_of c)) (map_list change_of (left endpoint n ws) ++ last_two id r) (spaces_ok (left endpoint n ws) id r));
  distinct = subst AreDistinct (sym as_left) (distinct_changes (left endpoint n ws) id r (apart_left endpoint n ws apart) (spelled_left ws all));
  leads = subst (λ u. Leads b.changes t u) (sym after) (subst (λ cs. Leads cs t (handled endpoint t id ws r)) (sym as_changes) (commit_leads endpoint t id ws r are all number));
}
  where
    n : ℕ
    n = t.commits + 1

    after : after_batch t b r ≡ handled endpoint t id ws r
    after = after_handled endpoint t id ws r b named writes

    as_changes : b.changes ≡ changes_of endpoint (t.commits + 1) ws ++ last_two id r
    as_changes = changes ∙ same_changes endpoint id ws r ∙ ap (λ k. changes_of endpoint k ws ++ last_two id r) number

    as_left : b.changes ≡ map_list change_of (left endpoint (t.commits + 1) ws) ++ last_two id r
    as_left = as_changes ∙ ap (λ (cs : List Change). cs ++ last_two id r) (map_map endpoint (t.commits + 1) ws)

    spelled_left : (vs : List Write) → AllByRecursion (λ w. IsSpelled (written_of endpoint (t.commits + 1) w)) vs → AllByRecursion IsSpelled (left endpoint (t.commits + 1) vs)
    spelled_left [] all = tt
    spelled_left (v ∷ vs) all = (all.0, spelled_left vs all.1)

-- ---- the tables after a batch

pub same_tables : (a b : Tables) → stored a ≡ stored b → a.outbox ≡ b.outbox → a ≡ b
same_tables a b s o = λ i. record { sagas = (s i).sagas; rows = (s i).rows; outbox = o i; commits = (s i).commits }

pub done_tables : (t u v : Tables) (b : Batch) (r : OutboxRow) → IsWider b.writes (stored t) (stored u) → u.outbox ≡ map.insert t.outbox b.id r
    → stored v ≡ record (fold with_written (stored u) b.writes) { commits = u.commits + 1 } → v.outbox ≡ u.outbox → v ≡ after_batch t b r
done_tables t u v b r wider there written outbox =
    same_tables v (after_batch t b r)
    (written ∙ (let s = wider_same b.writes (stored t) (stored u) wider in let c : u.commits ≡ t.commits = wider.commits in λ i. record { sagas = (s i).sagas; rows = (s i).rows; commits = c i + 1 })) (outbox ∙ there)

pub kept_after : (t : Tables) (b : Batch) (r : OutboxRow) (ids room now : ByName SagaKey) → IsKept t ids → IsBatch t b r → AreWiderIds b.links ids room
    → AreSwept (after_batch t b r).sagas b.names (fold linked room b.links) now → IsKept (after_batch t b r) now
kept_after t b r ids room now is batch wider swept = record {
  sound = batch.sound;
  spelled = batch.spelled;
  records = each-insert names IsRecordAt t.outbox b.id r is.records (batch.named, batch.handled);
  index =
      index_after (stored t) b.writes batch.apart ids room now is.index (subst (λ ls. AreWiderIds ls ids room) batch.links wider) batch.sound.base.ids
      (subst (λ ns. AreSwept (after_batch t b r).sagas ns (fold linked room (links_of b.writes)) now) batch.names (subst (λ ls. AreSwept (after_batch t b r).sagas b.names (fold linked room ls) now) batch.links swept));
}

pub older_next : (t : Tables) → IsSoundTables t → IsOlder (t.commits + 1) (stored t)
older_next t sound (saga_at place) content at = saga_older (map.get t.sagas place) refl content at
  where
    saga_older : (o : Option SagaRow) → map.get t.sagas place ≡ o → (content : Content) → saga_found o ≡ Some content → version_of content ≢ t.commits + 1
    saga_older None is content at same = absurd cc
    saga_older (Some row) is content at same =
        let v = (sound.base.sagas place row is).version in
        let e : row.version ≡ t.commits + 1 = ap (λ o. of_option o) at ∙ same in
        let to : row.version ≤ t.commits = v.1 in
        omega arith
      where
        of_option : Option Content → ℕ
        of_option None = 0
        of_option (Some c) = version_of c
older_next t sound (row_at name) content at = row_older (map.get t.rows name) refl content at
  where
    row_older : (o : _) → map.get t.rows name ≡ o → (content : Content) → row_found o ≡ Some content → version_of content ≢ t.commits + 1
    row_older None is content at same = absurd cc
    row_older (Some row) is content at same =
        let v = sound.base.rows name row is in
        let e : row.version ≡ t.commits + 1 = ap (λ o. of_option o) at ∙ same in
        let to : row.version ≤ t.commits = v.1 in
        omega arith
      where
        of_option : Option Content → ℕ
        of_option None = 0
        of_option (Some c) = version_of c

removed_as_before : {V : Type 0} (m : ByName V) (id : List ℕ) → map.get m id ≡ None → map.remove m id ≡ m
removed_as_before m id none = map.same_map names.total names.same (map.remove m id) m (λ q. go q (same_or_other names q id))
  where
    go : (q : List ℕ) → (q ≡ id) ⊎ (q ≢ id) → map.get (map.remove m id) q ≡ map.get m q
    go q (inl same) = ap (map.get (map.remove m id)) same ∙ gone names m id ∙ sym none ∙ ap (map.get m) (sym same)
    go q (inr other) = kept names m id q other

taken_again : {V : Type 0} (m : ByName V) (id : List ℕ) (v : V) → map.get m id ≡ None → map.remove (map.insert m id v) id ≡ m
taken_again m id v none = map.same_map names.total names.same (map.remove (map.insert m id v) id) m (λ q. go q (same_or_other names q id))
  where
    go : (q : List ℕ) → (q ≡ id) ⊎ (q ≢ id) → map.get (map.remove (map.insert m id v) id) q ≡ map.get m q
    go q (inl same) = ap (map.get (map.remove (map.insert m id v) id)) same ∙ gone names (map.insert m id v) id ∙ sym none ∙ ap (map.get m) (sym same)
    go q (inr other) = kept names (map.insert m id v) id q other ∙ at_other names m id v q other

pub undone_tables : (t u v : Tables) (b : Batch) (r : OutboxRow) (id : List ℕ) (ids : ByName SagaKey) → IsKept t ids → IsBatch t b r → id ≡ b.id → IsWider b.writes (stored t) (stored u)
    → (u.outbox ≡ t.outbox) ⊎ (u.outbox ≡ map.insert t.outbox id r)
    → ((s : Stored) → IsWider b.writes s (stored u) → AreOf (t.commits + 1) b.writes → IsOlder (t.commits + 1) s → stored v ≡ s) → v.outbox ≡ map.remove u.outbox b.id → v ≡ t
undone_tables t u v b r id ids is batch named wider outbox cleared removed =
    same_tables v t (cleared (stored t) wider batch.versions (older_next t is.sound)) (removed ∙ go outbox)
  where
    go : (u.outbox ≡ t.outbox) ⊎ (u.outbox ≡ map.insert t.outbox id r) → map.remove u.outbox b.id ≡ t.outbox
    go (inl same) = ap (λ m. map.remove m b.id) same ∙ removed_as_before t.outbox b.id batch.unrecorded
    go (inr put) = ap (λ m. map.remove m b.id) (put ∙ ap (λ k. map.insert t.outbox k r) named) ∙ taken_again t.outbox b.id r batch.unrecorded

pub undone_ids : (t : Tables) (b : Batch) (r : OutboxRow) (ids room now : ByName SagaKey) → IsKept t ids → IsBatch t b r → AreWiderIds b.links ids room → AreSwept t.sagas b.names room now → now ≡ ids
undone_ids t b r ids room now is batch wider swept =
    back_as_before t.sagas b.writes ids room now is.index (subst (λ ls. AreWiderIds ls ids room) batch.links wider) (subst (λ ns. AreSwept t.sagas ns room now) batch.names swept)

-- ---- a record that is marked

pub mark_leads : (id : List ℕ) (t : Tables) (r : OutboxRow) → Leads (Put 4 id (spelled_record (sent_record r)) ∷ []) t (marked t id r)
mark_leads id t r m has space key is =
    by_space (λ s. changed (Put 4 id (spelled_record (sent_record r)) ∷ []) m s key ≡ cells (marked t id r) s key) (has 1 key one_ok) (has 2 key two_ok) (has 3 key three_ok)
    (ap (cond (bytes_eq key id) (Some (spelled_record (sent_record r)))) (has 4 key four_ok) ∙ sym (spelled-insert names (λ x. x) spelled_record t.outbox id (sent_record r) (alone_id id (map.entries t.outbox)) key)) space is

-- ---- calls of the cells

pub applied_nothing : {C T : Type 0} (honest : C → Type 0) (now images : C → CellMap → Type 0) (firm : C → Type 0) (c : C) (before after : Tables) → Applied {T = T} honest now images firm c c before after (Err NoMemory)
applied_nothing honest now images firm c before after = record {
  honest_before = λ h. h;
  ok = λ h f s. tt;
  ok_firm = λ h f. tt;
  ok_images = λ h f s n i. tt;
  no_memory = λ h f s e. s;
  no_memory_firm = λ h f e. f;
  no_memory_images = λ h e n i. i;
  failed = λ h f s e. absurd cc;
  failed_images = λ h f s e. absurd cc;
}

pub applied_spent : {C T : Type 0} (honest : C → Type 0) (now images : C → CellMap → Type 0) (firm : C → Type 0) (c : C) (before after : Tables) → Applied {T = T} honest now images firm c c before after (Err Spent)
applied_spent honest now images firm c before after = record {
  honest_before = λ h. h;
  ok = λ h f s. tt;
  ok_firm = λ h f. tt;
  ok_images = λ h f s n i. tt;
  no_memory = λ h f s e. absurd cc;
  no_memory_firm = λ h f e. absurd cc;
  no_memory_images = λ h e. absurd cc;
  failed = λ h f s e. absurd cc;
  failed_images = λ h f s e. absurd cc;
}

pub new_row : (t : Tables) (moment n : ℕ) (ops made : List Op) → n ≡ t.commits → made ≡ ops → record { n = n + 1; at = moment; sent = false; ops = made } ≡ new_record t moment ops
new_row t moment n ops made number same = λ i. record { n = number i + 1; at = moment; sent = false; ops = same i }

abbrev refused : {A : Type 0} → StoreFault → Result A StoreFault
refused e = Err e

same_err : {S T : Type 0} (e f : StoreFault) → refused {A = T} e ≡ refused {A = T} f → refused {A = S} e ≡ refused {A = S} f
same_err {S = S} {T = T} e f is = let h : e ≡ f = cc in ap (refused {A = S}) h

module _ {C S T : Type 0} (honest : C → Type 0) (now images : C → CellMap → Type 0) (firm : C → Type 0) (c d : C) (before : Tables) where
  ok_as : (after : Tables) (x : S) (y : T) → Applied honest now images firm c d before after (Ok x) → Applied honest now images firm c d before after (Ok y)
  ok_as after x y a = record {
    honest_before = a.honest_before;
    ok = a.ok;
    ok_firm = a.ok_firm;
    ok_images = a.ok_images;
    no_memory = λ h f s e. absurd cc;
    no_memory_firm = λ h f e. absurd cc;
    no_memory_images = λ h e. absurd cc;
    failed = λ h f s e. absurd cc;
    failed_images = λ h f s e. absurd cc;
  }

  err_as : (after : Tables) (f : StoreFault) → Applied {T = S} honest now images firm c d before after (Err f) → Applied {T = T} honest now images firm c d before after (Err f)
  err_as after f a = record {
    honest_before = a.honest_before;
    ok = a.ok;
    ok_firm = a.ok_firm;
    ok_images = a.ok_images;
    no_memory = λ h i s e. a.no_memory h i s (same_err {S = S} {T = T} f NoMemory e);
    no_memory_firm = λ h i e. a.no_memory_firm h i (same_err {S = S} {T = T} f NoMemory e);
    no_memory_images = λ h e. a.no_memory_images h (same_err {S = S} {T = T} f NoMemory e);
    failed = λ h i s e. a.failed h i s (same_err {S = S} {T = T} f Failed e);
    failed_images = λ h i s e. a.failed_images h i s (same_err {S = S} {T = T} f Failed e);
  }

  pub applied_ok : (after other : Tables) (x : S) (y : T) → after ≡ other → Applied honest now images firm c d before after (Ok x) → Applied honest now images firm c d before other (Ok y)
  applied_ok after other x y same a = ok_as other x y (subst (λ t. Applied {T = S} honest now images firm c d before t (Ok x)) same a)

  pub applied_err : (after other : Tables) (f : StoreFault) → after ≡ other → Applied {T = S} honest now images firm c d before after (Err f) → Applied {T = T} honest now images firm c d before other (Err f)
  applied_err after other f same a = err_as other f (subst (λ t. Applied {T = S} honest now images firm c d before t (Err f)) same a)
