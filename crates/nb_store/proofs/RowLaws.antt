-- A commit that puts one row leaves sound tables.
use Rattle.std.specs.Prelude.{◌≡◌, ◌≢◌, ◌⊎◌, ◌≤◌, ℕ, ℤ, ◌+◌, List, [], ◌∷◌, cond, Some, None, unwrap_or, refl}
use Rattle.std.proofs.Common.{◌∙◌, ap, sym, subst, inl, inr, arith}
use Rattle.std.specs.Cmp.Lexicographic.{bytes_decides}
use Rattle.std.specs.FinMap as map
use Rattle.nb_base.proofs.Maps.{names, same_or_other, at_same, at_other}
use Rattle.nb_base.specs.Messages.{id_name}
use Rattle.nb_base.specs.Sound.{IsSoundTables, IsSoundSaga, IsSoundRecord, IsVersion, limit}
use Rattle.nb_base.specs.declared.entry.OutboxRow.{OutboxRow}
use Rattle.nb_base.specs.declared.plan.Write.TheVariants.{RowPut}
use Rattle.nb_base.specs.declared.saga_key.SagaKey.{SagaKey}
use Rattle.nb_base.specs.declared.saga_row.SagaRow.{SagaRow}
use Rattle.nb_base.specs.declared.tables.Row.{Row}
use Rattle.nb_base.specs.declared.tables.Tables.{Tables}
use Rattle.nb_store.specs.Calls.{committed, new_record, id_of}

inside : {A : Type 0} (x y : A) → Some x ≡ Some y → x ≡ y
inside x y e = cc

-- the id of a message with no other header
pub named_id : (id body : List ℕ) → id_of (record { headers = (id_name, id) ∷ []; body = body }) ≡ id
named_id id body = ap (λ b. unwrap_or (cond b (Some id) None) []) ((bytes_decides id_name id_name).1 refl)

later_version : (commits n : ℕ) → IsVersion commits n → IsVersion (commits + 1) n
later_version commits n is = (is.0, let to = is.1 in omega arith)

later_saga : (commits : ℕ) (place : SagaKey) (row : SagaRow) → IsSoundSaga commits place row → IsSoundSaga (commits + 1) place row
later_saga commits place row is =
    let i = is.id in
    record {
      corr = is.corr;
      kind = is.kind;
      id = (i.0, i.1, i.2, i.3, later_version commits i.1 i.4, i.5);
      version = later_version commits row.version is.version;
      revision = is.revision;
      fields = is.fields;
    }

later_record : (commits : ℕ) (id : List ℕ) (r : OutboxRow) → IsSoundRecord commits id r → IsSoundRecord (commits + 1) id r
later_record commits id r is = record { named = is.named; number = later_version commits r.n is.number; few = is.few; queues = is.queues; ids = is.ids; sent = is.sent }

pub row_sound : (endpoint : List ℕ) (t : Tables) (id name : List ℕ) (moment : ℕ) (value : ℤ) → IsSoundTables t → t.commits ≢ limit → id ≢ [] → IsSoundTables (committed endpoint t id moment (RowPut name value ∷ []) [])
row_sound endpoint t id name moment value sound room named = record {
  base = record {
    commits = let to = sound.base.commits in omega (arith, room);
    sagas = λ place row at. later_saga t.commits place row (sound.base.sagas place row at);
    ids = sound.base.ids;
    rows = λ n row at. row_at n row at (same_or_other names n name);
  };
  records = λ i r at. record_at i r at (same_or_other names i id);
  numbers = λ i j a b at_i at_j same. numbers i j a b at_i at_j same (same_or_other names i id) (same_or_other names j id);
}
  where
    new : OutboxRow
    new = new_record t moment []

    row_at : (n : List ℕ) (row : Row) → map.get (map.insert t.rows name (record { version = t.commits + 1; value = value })) n ≡ Some row → (n ≡ name) ⊎ (n ≢ name) → IsVersion (t.commits + 1) row.version
    row_at n row at (inl same) =
        let this : record { version = t.commits + 1; value = value } ≡ row =
        inside _ row (sym (at_same names t.rows name (record { version = t.commits + 1; value = value })) ∙ ap (map.get (map.insert t.rows name (record { version = t.commits + 1; value = value }))) (sym same) ∙ at) in
        subst (λ (r : Row). IsVersion (t.commits + 1) r.version) this (omega arith, omega arith)
    row_at n row at (inr other) =
        later_version t.commits row.version (sound.base.rows n row (sym (at_other names t.rows name (record { version = t.commits + 1; value = value }) n other) ∙ at))

    is_new : (i : List ℕ) (r : OutboxRow) → map.get (map.insert t.outbox id (new_record t moment [])) i ≡ Some r → i ≡ id → new_record t moment [] ≡ r
    is_new i r at same = inside _ r (sym (at_same names t.outbox id (new_record t moment [])) ∙ ap (map.get (map.insert t.outbox id (new_record t moment []))) (sym same) ∙ at)

    was : (i : List ℕ) (r : OutboxRow) → map.get (map.insert t.outbox id (new_record t moment [])) i ≡ Some r → i ≢ id → map.get t.outbox i ≡ Some r
    was i r at other = sym (at_other names t.outbox id (new_record t moment []) i other) ∙ at

    record_at : (i : List ℕ) (r : OutboxRow) → map.get (map.insert t.outbox id (new_record t moment [])) i ≡ Some r → (i ≡ id) ⊎ (i ≢ id) → IsSoundRecord (t.commits + 1) i r
    record_at i r at (inl same) =
        subst (IsSoundRecord (t.commits + 1) i) (is_new i r at same) (record {
          named = λ e. named (sym same ∙ e);
          number = (omega arith, omega arith);
          few = omega arith;
          queues = tt;
          ids = tt;
          sent = λ e. refl;
        })
    record_at i r at (inr other) = later_record t.commits i r (sound.records i r (was i r at other))

    below : (j : List ℕ) (b : OutboxRow) → map.get t.outbox j ≡ Some b → b.n ≤ t.commits
    below j b at = (sound.records j b at).number.1

    numbers : (i j : List ℕ) (a b : OutboxRow) → map.get (map.insert t.outbox id (new_record t moment [])) i ≡ Some a → map.get (map.insert t.outbox id (new_record t moment [])) j ≡ Some b → a.n ≡ b.n
        → (i ≡ id) ⊎ (i ≢ id) → (j ≡ id) ⊎ (j ≢ id) → i ≡ j
    numbers i j a b at_i at_j same (inl here) (inl there) = here ∙ sym there
    numbers i j a b at_i at_j same (inl here) (inr other) =
        let n : t.commits + 1 ≡ a.n = ap (λ (r : OutboxRow). r.n) (is_new i a at_i here) in
        let most : b.n ≤ t.commits = below j b (was j b at_j other) in
        absurd (omega arith)
    numbers i j a b at_i at_j same (inr other) (inl there) =
        let n : t.commits + 1 ≡ b.n = ap (λ (r : OutboxRow). r.n) (is_new j b at_j there) in
        let most : a.n ≤ t.commits = below i a (was i a at_i other) in
        absurd (omega arith)
    numbers i j a b at_i at_j same (inr other) (inr also) = sound.numbers i j a b (was i a at_i other) (was j b at_j also) same
