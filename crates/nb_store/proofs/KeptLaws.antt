-- What is kept of the tables stays sound.
use Rattle.std.specs.Prelude.{◌≡◌, ◌≢◌, ◌⊎◌, ℕ, List, [], true, Some, None, refl}
use Rattle.std.proofs.Common.{◌∙◌, ap, sym, subst, inl, inr, arith, Ordering}
use Rattle.std.specs.FinMap as map
use Rattle.std.specs.FinMap.{FinMap}
use Rattle.nb_base.proofs.Maps.{IsExact, names, same_or_other, at_same, at_other, gone, kept}
use Rattle.nb_base.specs.Sound.{IsSoundRecord, IsSoundTables}
use Rattle.nb_base.specs.declared.entry.OutboxRow.{OutboxRow}
use Rattle.nb_base.specs.declared.saga_key.SagaKey.{SagaKey}
use Rattle.nb_base.specs.declared.tables.Tables.{Tables}
use Rattle.nb_base.specs.Orders.{ByName}
use Rattle.nb_saga_store.proofs.MapLaws.{each-insert, each-remove, each-get}
use Rattle.nb_outbox.specs.Spelled.{sent_record, IsRecord}
use Rattle.nb_store.specs.Calls.{marked, purged}
use Rattle.nb_store.specs.Kept.{IsKept, IsRecordAt}

clash : {A : Type 0} (x : A) → None ≡ Some x → ⊥
clash x e = cc

module _ {K V : Type 0} {R : K → K → Ordering} (x : IsExact R) where
  -- what is there once a key is taken out was there
  pub still : (m : FinMap R V) (k q : K) (v : V) → map.get (map.remove m k) q ≡ Some v → map.get m q ≡ Some v
  still m k q v is = go (same_or_other x q k)
    where
      go : (q ≡ k) ⊎ (q ≢ k) → map.get m q ≡ Some v
      go (inl same) = absurd (clash v (sym (gone x m k) ∙ ap (map.get (map.remove m k)) (sym same) ∙ is))
      go (inr other) = sym (kept x m k q other) ∙ is

pub kept_without : (t : Tables) (ids : ByName SagaKey) (id : List ℕ) → IsKept t ids → IsKept (purged t id) ids
kept_without t ids id is = record {
  sound = record {
    base = is.sound.base;
    records = λ i r at. is.sound.records i r (still names t.outbox id i r at);
    numbers = λ i j a b at_i at_j same. is.sound.numbers i j a b (still names t.outbox id i a at_i) (still names t.outbox id j b at_j) same;
  };
  spelled = is.spelled;
  records = each-remove names IsRecordAt t.outbox id is.records;
  index = is.index;
}

-- ---- a record that was sent

-- what is there once a record is marked stood there, under the same number
pub record WasThere (t : Tables) (i : List ℕ) (a : OutboxRow) : Type 0 where
  pub before : OutboxRow
  pub there : map.get t.outbox i ≡ Some before
  pub number : a.n ≡ before.n

pub inside : {A : Type 0} (x y : A) → Some x ≡ Some y → x ≡ y
inside x y e = cc

was_there : (t : Tables) (id : List ℕ) (r : OutboxRow) → map.get t.outbox id ≡ Some r → (i : List ℕ) (a : OutboxRow) → map.get (marked t id r).outbox i ≡ Some a → WasThere t i a
was_there t id r at i a is = go (same_or_other names i id)
  where
    go : (i ≡ id) ⊎ (i ≢ id) → WasThere t i a
    go (inl same) =
        let this : a ≡ sent_record r = inside a (sent_record r) (sym is ∙ ap (map.get (marked t id r).outbox) same ∙ at_same names t.outbox id (sent_record r)) in
        record { before = r; there = ap (map.get t.outbox) same ∙ at; number = ap (λ (x : OutboxRow). x.n) this }
    go (inr other) = record { before = a; there = sym (at_other names t.outbox id (sent_record r) i other) ∙ is; number = refl }

sound_sent : (commits : ℕ) (id : List ℕ) (r : OutboxRow) → IsSoundRecord commits id r → IsSoundRecord commits id (sent_record r)
sound_sent commits id r is = record { named = is.named; number = is.number; few = omega arith; queues = tt; ids = tt; sent = λ _. refl }

pub kept_marked : (t : Tables) (ids : ByName SagaKey) (id : List ℕ) (r : OutboxRow) → IsKept t ids → map.get t.outbox id ≡ Some r → IsRecord (sent_record r) → IsKept (marked t id r) ids
kept_marked t ids id r is at spelled = record {
  sound = record {
    base = is.sound.base;
    records = λ i a there. records i a there (same_or_other names i id);
    numbers = λ i j a b at_i at_j same.
        let x = was_there t id r at i a at_i in
        let y = was_there t id r at j b at_j in
        is.sound.numbers i j x.before y.before x.there y.there (sym x.number ∙ same ∙ y.number);
  };
  spelled = is.spelled;
  records = each-insert names IsRecordAt t.outbox id (sent_record r) is.records ((each-get names IsRecordAt t.outbox id r is.records at).0, spelled);
  index = is.index;
}
  where
    records : (i : List ℕ) (a : OutboxRow) → map.get (marked t id r).outbox i ≡ Some a → (i ≡ id) ⊎ (i ≢ id) → IsSoundRecord t.commits i a
    records i a there (inl same) =
        let this : a ≡ sent_record r = inside a (sent_record r) (sym there ∙ ap (map.get (marked t id r).outbox) same ∙ at_same names t.outbox id (sent_record r)) in
        subst (IsSoundRecord t.commits i) (sym this) (sound_sent t.commits i r (is.sound.records i r (ap (map.get t.outbox) same ∙ at)))
    records i a there (inr other) = is.sound.records i a (sym (at_other names t.outbox id (sent_record r) i other) ∙ there)

-- a record that was sent is as it was marked
pub marked_again : (t : Tables) (id : List ℕ) (r : OutboxRow) → IsSoundTables t → map.get t.outbox id ≡ Some r → r.sent ≡ true → marked t id r ≡ t
marked_again t id r sound at sent =
    let ops : r.ops ≡ [] = (sound.records id r at).sent sent in
    let same : sent_record r ≡ r = λ i. record { n = r.n; at = r.at; sent = sym sent i; ops = sym ops i } in
    let outbox : (marked t id r).outbox ≡ t.outbox = map.same_map names.total names.same (map.insert t.outbox id (sent_record r)) t.outbox (λ q. go same q (same_or_other names q id)) in
    λ i. record { sagas = t.sagas; rows = t.rows; outbox = outbox i; commits = t.commits }
  where
    go : sent_record r ≡ r → (q : List ℕ) → (q ≡ id) ⊎ (q ≢ id) → map.get (map.insert t.outbox id (sent_record r)) q ≡ map.get t.outbox q
    go this q (inl same) = ap (map.get (map.insert t.outbox id (sent_record r))) same ∙ at_same names t.outbox id (sent_record r) ∙ ap Some this ∙ sym at ∙ ap (map.get t.outbox) (sym same)
    go this q (inr other) = at_other names t.outbox id (sent_record r) q other
