-- No id is given twice: a later commit has a greater number.
use Rattle.std.proofs.Common.{◌≡◌, ◌≢◌, ◌+◌, ◌<◌, ◌^◌, ℕ, Some, refl, sym, ap, ◌∙◌, subst, arith, List, [], ◌∷◌, ◌++◌, length}
use Rattle.std.specs.List.{AllByRecursion}
use Rattle.nb_base.specs.Meanings.{Meaning, IsMeaning, block_of, IsApart, AreApart, IsRightWrite}
use Rattle.nb_base.specs.Messages.{Message}
use Rattle.nb_base.specs.Shown.{Stored}
use Rattle.nb_base.specs.Sound.{IsSagaId}
use Rattle.nb_base.specs.declared.entry.Op.{Op}
use Rattle.nb_base.specs.declared.plan.Intent.{Intent}
use Rattle.nb_base.specs.declared.plan.SagaRef.TheVariants.{New, Stored as Known}
use Rattle.nb_base.specs.declared.plan.Write.{Write}
use Rattle.nb_base.specs.declared.plan.Write.TheVariants.{SagaPut, SagaErase, RowPut, RowErase}
use Rattle.nb_base.specs.declared.settings.Settings.{Settings}
use Rattle.nb_headers.specs.Outgoing.{outgoing}
use Rattle.nb_headers.specs.Reads.{id_of}
use Rattle.nb_dispatch.specs.Dispatches.{made_id, made, ops_to, ops_from, ops_of, queues_of}
use Rattle.nb_core.proofs.Batches.{batch_can}
use Rattle.nb_core.proofs.Ids.{same_made, not_made_before}
use Rattle.nb_core.proofs.Looking.{present}
use Rattle.nb_core.proofs.Serials.{Kept, kept_on}
use Rattle.nb_core.specs.History.{Run, ends, goes, batches, batch_by}
use Rattle.nb_core.specs.Ids.{AllDiffer, ids_in, op_ids, made_ids, sagas_by, saga_ids, Ids}
use Rattle.nb_core.specs.State.{State, Constants, base, commit_ops}
use Rattle.nb_core.specs.Step.{Event, Step, load, take, look_known, look_new, settle_twin, settle_fault, settle_conflict, settle_commit, send, mark, aside, remove, tick, release, purge, put_back, drop_back, stop, halt}

-- an id that the commit with this number made
pub record MadeBy (e : List ℕ) (n : ℕ) (id : List ℕ) : Type 0 where
  pub index : ℕ
  pub some : 0 < index
  pub few : index < 2 ^ 64
  pub is : id ≡ made_id e n index

-- or a later commit than this one
pub record MadeAfter (e : List ℕ) (m : ℕ) (id : List ℕ) : Type 0 where
  pub n : ℕ
  pub later : m < n
  pub small : n < 2 ^ 64
  pub by : MadeBy e n id

module _ (e : List ℕ) where
  apart : (m : ℕ) (x y : List ℕ) → m < 2 ^ 64 → MadeBy e m x → MadeAfter e m y → x ≢ y
  apart m x y small a b same =
      let p = same_made e e m b.n a.index b.by.index small b.small a.some b.by.some a.few b.by.few (sym a.is ∙ same ∙ b.by.is) in
      let n_is = p.1 in
      let l = b.later in
      omega arith

  apart_all : (m : ℕ) (x : List ℕ) (ys : List (List ℕ)) → m < 2 ^ 64 → MadeBy e m x → AllByRecursion (MadeAfter e m) ys → AllByRecursion (λ y. x ≢ y) ys
  apart_all m x [] small a h = tt
  apart_all m x (y ∷ ys) small a h = (apart m x y small a h.0, apart_all m x ys small a h.1)

  differ_append : (x : List ℕ) (xs ys : List (List ℕ)) → AllByRecursion (λ y. x ≢ y) xs → AllByRecursion (λ y. x ≢ y) ys → AllByRecursion (λ y. x ≢ y) (xs ++ ys)
  differ_append x [] ys f g = g
  differ_append x (z ∷ xs) ys f g = (f.0, differ_append x xs ys f.1 g)

  -- the ids of one commit, and of later ones
  both_differ : (m : ℕ) (xs ys : List (List ℕ)) → m < 2 ^ 64 → AllByRecursion (MadeBy e m) xs → AllDiffer xs → AllByRecursion (MadeAfter e m) ys → AllDiffer ys → AllDiffer (xs ++ ys)
  both_differ m [] ys small f d g d' = d'
  both_differ m (x ∷ xs) ys small f d g d' = (differ_append x xs ys d.0 (apart_all m x ys small f.0 g), both_differ m xs ys small f.1 d.1 g d')

  later_by : (m : ℕ) (xs ys : List (List ℕ)) → m + 1 < 2 ^ 64 → AllByRecursion (MadeBy e (m + 1)) xs → AllByRecursion (MadeAfter e (m + 1)) ys → AllByRecursion (MadeAfter e m) (xs ++ ys)
  later_by m [] [] small f g = tt
  later_by m [] (y ∷ ys) small f g = let l = g.0.later in (record { n = g.0.n; later = omega arith; small = g.0.small; by = g.0.by }, later_by m [] ys small f g.1)
  later_by m (x ∷ xs) ys small f g = (record { n = m + 1; later = omega arith; small = small; by = f.0 }, later_by m xs ys small f.1 g)

  -- ---- ops

  Numbered : ℕ → ℕ → List Op → Type 0
  Numbered n index [] = Unit {0}
  Numbered n index (op ∷ ops) = (id_of op.envelope ≡ made_id e n index) × Numbered n (index + 1) ops

  numbered_append : (n index : ℕ) (xs ys : List Op) → Numbered n index xs → Numbered n (index + length xs) ys → Numbered n index (xs ++ ys)
  unfolding Numbered
  numbered_append n index [] ys f g = subst (λ i. Numbered n i ys) (omega arith) g
  numbered_append n index (x ∷ xs) ys f g = (f.0, numbered_append n (index + 1) xs ys f.1 (subst (λ i. Numbered n i ys) (omega arith) g))

  numbered_made : (n index : ℕ) (ops : List Op) → 0 < index → index + length ops < 2 ^ 64 → Numbered n index ops → AllByRecursion (MadeBy e n) (ids_in ops)
  unfolding Numbered
  numbered_made n index [] some few h = tt
  numbered_made n index (op ∷ ops) some few h = (record { index = index; some = some; few = omega arith; is = h.0 }, numbered_made n (index + 1) ops (omega arith) (omega arith) h.1)

  numbered_other : (n i index : ℕ) (x : List ℕ) (ops : List Op) → n < 2 ^ 64 → 0 < i → i < index → index + length ops < 2 ^ 64 → x ≡ made_id e n i → Numbered n index ops → AllByRecursion (λ y. x ≢ y) (ids_in ops)
  unfolding Numbered
  numbered_other n i index x [] small some lt few is h = tt
  numbered_other n i index x (op ∷ ops) small some lt few is h = (
    (λ same. let p = (same_made e e n n i index small small some (omega arith) (omega arith) (omega arith) (sym is ∙ same ∙ h.0)).2 in omega arith),
    numbered_other n i (index + 1) x ops small some (omega arith) (omega arith) is h.1,
  )

  numbered_differ : (n index : ℕ) (ops : List Op) → n < 2 ^ 64 → 0 < index → index + length ops < 2 ^ 64 → Numbered n index ops → AllDiffer (ids_in ops)
  unfolding Numbered
  numbered_differ n index [] small some few h = tt
  numbered_differ n index (op ∷ ops) small some few h =
      (numbered_other n index (index + 1) (id_of op.envelope) ops small some (omega arith) (omega arith) h.0 h.1, numbered_differ n (index + 1) ops small (omega arith) (omega arith) h.1)

  -- ---- sagas

  made_few : (meaning : Meaning) (t : Stored) (n : ℕ) (ws : List Write) → AllByRecursion (IsRightWrite meaning t) ws → AllByRecursion (MadeBy e n) (made_ids e n ws)
  made_few meaning t n [] h = tt
  made_few meaning t n (SagaPut saga corr revision (New block) originator original fields ∷ ws) h =
      let put = h.0.3 in
      let lt = put.1 in
      let some = put.0 in
      (record { index = block; some = omega arith; few = omega arith; is = refl }, made_few meaning t n ws h.1)
  made_few meaning t n (SagaPut saga corr revision (Known id) originator original fields ∷ ws) h = made_few meaning t n ws h.1
  made_few meaning t n (SagaErase saga corr ∷ ws) h = made_few meaning t n ws h.1
  made_few meaning t n (RowPut name value ∷ ws) h = made_few meaning t n ws h.1
  made_few meaning t n (RowErase name ∷ ws) h = made_few meaning t n ws h.1

  -- a block that no other write has
  block_other : (meaning : Meaning) (t : Stored) (n block : ℕ) (ws : List Write) → n < 2 ^ 64 → 0 < block → block < 2 ^ 64 → AllByRecursion (IsRightWrite meaning t) ws
      → AllByRecursion (λ w. block_of w ≢ Some block) ws → AllByRecursion (λ y. made_id e n block ≢ y) (made_ids e n ws)
  block_other meaning t n block [] small some few h f = tt
  block_other meaning t n block (SagaPut saga corr revision (New other) originator original fields ∷ ws) small some few h f =
      let put = h.0.3 in
      let lt = put.1 in
      let more = put.0 in
      ((λ same. let p = (same_made e e n n block other small small some (omega arith) few (omega arith) same).2 in f.0 (ap Some (sym p))), block_other meaning t n block ws small some few h.1 f.1)
  block_other meaning t n block (SagaPut saga corr revision (Known id) originator original fields ∷ ws) small some few h f = block_other meaning t n block ws small some few h.1 f.1
  block_other meaning t n block (SagaErase saga corr ∷ ws) small some few h f = block_other meaning t n block ws small some few h.1 f.1
  block_other meaning t n block (RowPut name value ∷ ws) small some few h f = block_other meaning t n block ws small some few h.1 f.1
  block_other meaning t n block (RowErase name ∷ ws) small some few h f = block_other meaning t n block ws small some few h.1 f.1

  no_block : (w : Write) (block : ℕ) (ws : List Write) → block_of w ≡ Some block → AllByRecursion (IsApart w) ws → AllByRecursion (λ v. block_of v ≢ Some block) ws
  no_block w block [] is h = tt
  no_block w block (v ∷ ws) is h = (h.0.1 block is, no_block w block ws is h.1)

  made_differ : (meaning : Meaning) (t : Stored) (n : ℕ) (ws : List Write) → n < 2 ^ 64 → AllByRecursion (IsRightWrite meaning t) ws → AreApart ws → AllDiffer (made_ids e n ws)
  made_differ meaning t n [] small h a = tt
  made_differ meaning t n (SagaPut saga corr revision (New block) originator original fields ∷ ws) small h a =
      let put = h.0.3 in
      let lt = put.1 in
      let more = put.0 in
      (block_other meaning t n block ws small (omega arith) (omega arith) h.1 (no_block (SagaPut saga corr revision (New block) originator original fields) block ws refl a.0), made_differ meaning t n ws small h.1 a.1)
  made_differ meaning t n (SagaPut saga corr revision (Known id) originator original fields ∷ ws) small h a = made_differ meaning t n ws small h.1 a.1
  made_differ meaning t n (SagaErase saga corr ∷ ws) small h a = made_differ meaning t n ws small h.1 a.1
  made_differ meaning t n (RowPut name value ∷ ws) small h a = made_differ meaning t n ws small h.1 a.1
  made_differ meaning t n (RowErase name ∷ ws) small h a = made_differ meaning t n ws small h.1 a.1

  -- a saga of an earlier commit has none of these ids
  old_other : (m : ℕ) (id : List ℕ) (xs : List (List ℕ)) → m < 2 ^ 64 → IsSagaId m id → AllByRecursion (MadeAfter e m) xs → AllByRecursion (λ x. id ≢ x) xs
  old_other m id [] small h f = tt
  old_other m id (x ∷ xs) small h f =
      ((λ same. not_made_before e m f.0.n f.0.by.index id f.0.later f.0.small f.0.by.some f.0.by.few h (same ∙ f.0.by.is)), old_other m id xs small h f.1)

-- an op's id is the one that it was made with
outgoing_id : (incoming : Message) (settings : Settings) (n at : ℕ) (intent : Intent) (index : ℕ) → id_of (outgoing incoming (made settings n at intent index)) ≡ made_id settings.endpoint n index
unfolding id_of outgoing
outgoing_id incoming settings n at intent index = refl

module _ (settings : Settings) (incoming : Message) (n at : ℕ) where
  to_length : (intent : Intent) (index : ℕ) (qs : List (List ℕ)) → length (ops_to settings incoming n at intent index qs) ≡ length qs
  to_length intent index [] = refl
  to_length intent index (q ∷ qs) = let r = to_length intent (index + 1) qs in omega arith

  to_numbered : (intent : Intent) (index : ℕ) (qs : List (List ℕ)) → Numbered settings.endpoint n index (ops_to settings incoming n at intent index qs)
  unfolding Numbered
  to_numbered intent index [] = tt
  to_numbered intent index (q ∷ qs) = (outgoing_id incoming settings n at intent index, to_numbered intent (index + 1) qs)

  from_numbered : (index : ℕ) (intents : List Intent) → Numbered settings.endpoint n index (ops_from settings incoming n at index intents)
  unfolding Numbered
  from_numbered index [] = tt
  from_numbered index (x ∷ xs) =
      let qs = queues_of settings x.target x.name in
      numbered_append settings.endpoint n index (ops_to settings incoming n at x index qs) (ops_from settings incoming n at (index + length qs) xs) (to_numbered x index qs)
      (subst (λ k. Numbered settings.endpoint n (index + k) (ops_from settings incoming n at (index + length qs) xs)) (sym (to_length x index qs)) (from_numbered (index + length qs) xs))

  batch_numbered : (intents : List Intent) → Numbered settings.endpoint n 1 (ops_of settings incoming n at intents)
  unfolding ops_of
  batch_numbered intents = from_numbered 1 intents

-- the ids that a run gives, from a state on
pub record Named (c : Constants) (commits : ℕ) (ops : List (List Op)) (sagas : List (List ℕ)) : Type 0 where
  pub ops_later : AllByRecursion (MadeAfter c.settings.endpoint commits) (op_ids ops)
  pub ops_differ : AllDiffer (op_ids ops)
  pub sagas_later : AllByRecursion (MadeAfter c.settings.endpoint commits) sagas
  pub sagas_differ : AllDiffer sagas

named_step : {c : Constants} {s s' : State} {e : Event} → IsMeaning c.meaning → (step : Step c s e s') → Kept c s → (bs : List (List Op)) (ss : List (List ℕ))
    → Named c s'.tables.commits bs ss → Named c s.tables.commits (batch_by step ++ bs) (sagas_by step ++ ss)
named_step {c = c} {s = s} means (settle_commit {w = w} {n = n} {reads = reads} {e = e} {plan = plan} looked there new judged fresh room) k bs ss h =
    let end = c.settings.endpoint in
    let m = s.tables.commits in
    let ops = commit_ops c s e.envelope plan in
    let right = (present c means s w n reads e plan k.sound k.looking looked there judged fresh).right in
    let few = (batch_can c.settings c.meaning e.envelope (m + 1) s.moment (base s) plan right).1 in
    let small : m + 1 < 2 ^ 64 = omega arith in
    let numbered = batch_numbered c.settings e.envelope (m + 1) s.moment plan.intents in
    let made = numbered_made end (m + 1) 1 ops (omega arith) (omega arith) numbered in
    let sagas = made_few end c.meaning (base s) (m + 1) plan.writes right.writes in
    record {
      ops_later = later_by end m (ids_in ops) (op_ids bs) small made h.ops_later;
      ops_differ = both_differ end (m + 1) (ids_in ops) (op_ids bs) small made (numbered_differ end (m + 1) 1 ops small (omega arith) (omega arith) numbered) h.ops_later h.ops_differ;
      sagas_later = later_by end m (made_ids end (m + 1) plan.writes) ss small sagas h.sagas_later;
      sagas_differ = both_differ end (m + 1) (made_ids end (m + 1) plan.writes) ss small sagas (made_differ end c.meaning (base s) (m + 1) plan.writes small right.writes right.apart) h.sagas_later h.sagas_differ;
    }
named_step means (load named room) k bs ss h = h
named_step means (take i x) k bs ss h = h
named_step means (look_known x y z) k bs ss h = h
named_step means (look_new x y z) k bs ss h = h
named_step means (settle_twin x y z) k bs ss h = h
named_step means (settle_fault x y z v) k bs ss h = h
named_step means (settle_conflict x y z v r) k bs ss h = h
named_step means (send x y z) k bs ss h = h
named_step means (mark x y z) k bs ss h = h
named_step means (aside x y) k bs ss h = h
named_step means (remove x) k bs ss h = h
named_step means (tick i x) k bs ss h = h
named_step means (release i x y z) k bs ss h = h
named_step means (purge i x y z) k bs ss h = h
named_step means (put_back i x y z f r) k bs ss h = h
named_step means (drop_back i x) k bs ss h = h
named_step means stop k bs ss h = h
named_step means halt k bs ss h = h

named_run : {c : Constants} {s s' : State} {es : List Event} → IsMeaning c.meaning → (run : Run c s es s') → Kept c s → Named c s.tables.commits (batches run) (saga_ids run)
named_run means ends k = record { ops_later = tt; ops_differ = tt; sagas_later = tt; sagas_differ = tt }
named_run means (goes step rest) k = named_step means step k (batches rest) (saga_ids rest) (named_run means rest (kept_on means step k))

pub ids : {c : Constants} {s s' : State} {es : List Event} → IsMeaning c.meaning → (run : Run c s es s') → Kept c s → Ids run
ids {c = c} {s = s} means run k =
    let n = named_run means run k in
    let most = k.sound.sound.commits in
    record {
      ops = n.ops_differ;
      sagas = n.sagas_differ;
      opening = λ place row there. old_other c.settings.endpoint s.tables.commits row.id (saga_ids run) (omega arith) (k.sound.sound.sagas place row there).id n.sagas_later;
    }
