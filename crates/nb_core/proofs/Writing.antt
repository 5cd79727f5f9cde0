-- What stands after the writes of a commit: what stood before, or what the commit wrote. So sound tables stay sound.
use Rattle.std.proofs.Common.{◌≡◌, ◌≢◌, ◌⊎◌, ◌+◌, ◌<◌, ◌^◌, ℕ, true, Some, None, refl, sym, ap, ◌∙◌, inl, inr, ⊎_elim, subst, arith, List, [], ◌∷◌}
use Rattle.std.specs.List.{AllByRecursion}
use Rattle.std.specs.FinMap as map
use Rattle.nb_base.proofs.Maps.{names, places, same_or_other, at_same, at_other, gone, kept}
use Rattle.nb_base.specs.Meanings.{Meaning, AllFit, place_of, block_of, saga_at, IsApart, AreApart, IsPutRight, IsRightWrite, IsRightPlan}
use Rattle.nb_base.specs.Shown.{Stored}
use Rattle.nb_base.specs.Sound.{IsSagaId, IsSoundSaga, IsSoundStored, limit}
use Rattle.nb_base.specs.declared.plan.Plan.{Plan}
use Rattle.nb_base.specs.declared.plan.SagaRef.{SagaRef}
use Rattle.nb_base.specs.declared.plan.SagaRef.TheVariants.{New, Stored as Known}
use Rattle.nb_base.specs.declared.plan.Write.{Write}
use Rattle.nb_base.specs.declared.plan.Write.TheVariants.{SagaPut, SagaErase, RowPut, RowErase}
use Rattle.nb_base.specs.declared.saga_key.SagaKey.{SagaKey}
use Rattle.nb_base.specs.declared.saga_row.SagaRow.{SagaRow}
use Rattle.nb_base.specs.declared.tables.Row.{Row}
use Rattle.nb_dispatch.specs.Dispatches.{made_id, saga_id_after}
use Rattle.nb_core.proofs.Firsts.{some_is}
use Rattle.nb_core.proofs.Ids.{same_made, made_is_saga_id, later_saga_id, not_made_before}
use Rattle.nb_core.specs.Serve.{written, written_all, after_plan}

-- the write puts this saga at this place
pub Puts : List ℕ → ℕ → SagaKey → SagaRow → Write → Type 0
Puts endpoint n p r (SagaPut saga corr revision which originator original fields) =
    (p ≡ record { saga = saga; corr = corr })
    × (r ≡ record { corr = corr; id = saga_id_after endpoint n which; version = n; revision = revision; originator = originator; original = original; fields = fields })
Puts endpoint n p r (SagaErase saga corr) = ⊥
Puts endpoint n p r (RowPut name value) = ⊥
Puts endpoint n p r (RowErase name) = ⊥

-- one of the writes does
pub Wrote : List ℕ → ℕ → SagaKey → SagaRow → List Write → Type 0
Wrote endpoint n p r [] = ⊥
Wrote endpoint n p r (w ∷ ws) = Puts endpoint n p r w ⊎ Wrote endpoint n p r ws

module _ (endpoint : List ℕ) (n : ℕ) where
  saga_after_one : (t : Stored) (w : Write) (p : SagaKey) (r : SagaRow) → map.get (written endpoint n t w).sagas p ≡ Some r → (map.get t.sagas p ≡ Some r) ⊎ Puts endpoint n p r w
  unfolding Puts
  saga_after_one t (SagaPut saga corr revision which originator original fields) p r at =
      let k : SagaKey = record { saga = saga; corr = corr } in
      let v : SagaRow = record { corr = corr; id = saga_id_after endpoint n which; version = n; revision = revision; originator = originator; original = original; fields = fields } in
      ⊎_elim
      (λ (same : p ≡ k). inr (same, sym (some_is (sym (at_same places t.sagas k v) ∙ ap (map.get (map.insert t.sagas k v)) (sym same) ∙ at))))
      (λ (ne : p ≢ k). inl (sym (at_other places t.sagas k v p ne) ∙ at))
      (same_or_other places p k)
  saga_after_one t (SagaErase saga corr) p r at =
      let k : SagaKey = record { saga = saga; corr = corr } in
      ⊎_elim
      (λ (same : p ≡ k). absurd (let z : None ≡ Some r = sym (gone places t.sagas k) ∙ ap (map.get (map.remove t.sagas k)) (sym same) ∙ at in cc))
      (λ (ne : p ≢ k). inl (sym (kept places t.sagas k p ne) ∙ at))
      (same_or_other places p k)
  saga_after_one t (RowPut name value) p r at = inl at
  saga_after_one t (RowErase name) p r at = inl at

  -- a saga after the writes stood there, or was put there by one of them
  pub saga_after : (ws : List Write) (t : Stored) (p : SagaKey) (r : SagaRow) → map.get (written_all endpoint n t ws).sagas p ≡ Some r → (map.get t.sagas p ≡ Some r) ⊎ Wrote endpoint n p r ws
  unfolding Wrote
  saga_after [] t p r at = inl at
  saga_after (w ∷ ws) t p r at = ⊎_elim
      (λ (was : map.get (written endpoint n t w).sagas p ≡ Some r). ⊎_elim
      (λ (x : map.get t.sagas p ≡ Some r). inl x)
      (λ (x : Puts endpoint n p r w). inr (inl x))
      (saga_after_one t w p r was))
      (λ (new : Wrote endpoint n p r ws). inr (inr new))
      (saga_after ws (written endpoint n t w) p r at)

  row_after_one : (t : Stored) (w : Write) (name : List ℕ) (r : Row) → map.get (written endpoint n t w).rows name ≡ Some r → (map.get t.rows name ≡ Some r) ⊎ (r.version ≡ n)
  row_after_one t (SagaPut saga corr revision which originator original fields) name r at = inl at
  row_after_one t (SagaErase saga corr) name r at = inl at
  row_after_one t (RowPut k value) name r at =
      let v : Row = record { version = n; value = value } in
      ⊎_elim
      (λ (same : name ≡ k). inr (ap (λ (y : Row). y.version) (sym (some_is (sym (at_same names t.rows k v) ∙ ap (map.get (map.insert t.rows k v)) (sym same) ∙ at)))))
      (λ (ne : name ≢ k). inl (sym (at_other names t.rows k v name ne) ∙ at))
      (same_or_other names name k)
  row_after_one t (RowErase k) name r at = ⊎_elim
      (λ (same : name ≡ k). absurd (let z : None ≡ Some r = sym (gone names t.rows k) ∙ ap (map.get (map.remove t.rows k)) (sym same) ∙ at in cc))
      (λ (ne : name ≢ k). inl (sym (kept names t.rows k name ne) ∙ at))
      (same_or_other names name k)

  -- a row after the writes stood there, or is at their version
  pub row_after : (ws : List Write) (t : Stored) (name : List ℕ) (r : Row) → map.get (written_all endpoint n t ws).rows name ≡ Some r → (map.get t.rows name ≡ Some r) ⊎ (r.version ≡ n)
  row_after [] t name r at = inl at
  row_after (w ∷ ws) t name r at = ⊎_elim
      (λ (was : map.get (written endpoint n t w).rows name ≡ Some r). row_after_one t w name r was)
      (λ (new : r.version ≡ n). inr new)
      (row_after ws (written endpoint n t w) name r at)

  puts_version : (w : Write) (p : SagaKey) (r : SagaRow) → Puts endpoint n p r w → r.version ≡ n
  unfolding Puts
  puts_version (SagaPut saga corr revision which originator original fields) p r h = ap (λ (y : SagaRow). y.version) h.1
  puts_version (SagaErase saga corr) p r h = absurd h
  puts_version (RowPut name value) p r h = absurd h
  puts_version (RowErase name) p r h = absurd h

  pub wrote_version : (ws : List Write) (p : SagaKey) (r : SagaRow) → Wrote endpoint n p r ws → r.version ≡ n
  unfolding Wrote
  wrote_version [] p r h = absurd h
  wrote_version (w ∷ ws) p r h = ⊎_elim (λ (x : Puts endpoint n p r w). puts_version w p r x) (λ (x : Wrote endpoint n p r ws). wrote_version ws p r x) h

  -- the write makes the saga at this place by this block
  Makes : SagaKey → ℕ → Write → Type 0
  Makes p block w = (place_of w ≡ saga_at p) × (block_of w ≡ Some block)

  Made : SagaKey → ℕ → List Write → Type 0
  Made p block [] = ⊥
  Made p block (w ∷ ws) = Makes p block w ⊎ Made p block ws

  same_place : (w : Write) (p q : SagaKey) (block : ℕ) → Makes p block w → Makes q block w → p ≡ q
  unfolding Makes
  same_place w p q block a b = let z : saga_at p ≡ saga_at q = sym a.0 ∙ b.0 in cc

  apart_block : (w : Write) (ws : List Write) → AllByRecursion (IsApart w) ws → (p q : SagaKey) (block : ℕ) → Makes p block w → Made q block ws → ⊥
  unfolding Makes Made
  apart_block w [] f p q block a b = b
  apart_block w (v ∷ ws) f p q block a b = ⊎_elim
      (λ (x : Makes q block v). f.0.1 block a.1 x.1)
      (λ (x : Made q block ws). apart_block w ws f.1 p q block a x)
      b

  -- a block makes one saga
  one_place : (ws : List Write) → AreApart ws → (p q : SagaKey) (block : ℕ) → Made p block ws → Made q block ws → p ≡ q
  unfolding Made
  one_place [] f p q block a b = absurd a
  one_place (w ∷ ws) f p q block a b = ⊎_elim
      (λ (x : Makes p block w). ⊎_elim
      (λ (y : Makes q block w). same_place w p q block x y)
      (λ (y : Made q block ws). absurd (apart_block w ws f.0 p q block x y))
      b)
      (λ (x : Made p block ws). ⊎_elim
      (λ (y : Makes q block w). absurd (apart_block w ws f.0 q p block y x))
      (λ (y : Made q block ws). one_place ws f.1 p q block x y)
      b)
      a

  module _ (meaning : Meaning) (t : Stored) (sound : IsSoundStored t) (fit : AllFit meaning t) (n_is : n ≡ t.commits + 1) (room : t.commits < limit) where
    small : n < 2 ^ 64
    small = omega arith

    -- where an id of a saga after the writes comes from: from a saga at that place, or from a block of this commit
    Origin : List Write → SagaKey → SagaRow → Type 0
    Origin ws p r = ((old : SagaRow) × (map.get t.sagas p ≡ Some old) × (old.id ≡ r.id)) ⊎ ((block : ℕ) × (0 < block) × (block < 2 ^ 64) × (r.id ≡ made_id endpoint n block) × Made p block ws)

    origin_which : (which : SagaRef) (saga : List ℕ) (w : Write) (ws : List Write) (p : SagaKey) (r : SagaRow) → IsPutRight t p which → r.id ≡ saga_id_after endpoint n which
        → ((block : ℕ) → which ≡ New block → Makes p block w) → Origin (w ∷ ws) p r
    unfolding Origin Made
    origin_which (New block) saga w ws p r right is makes =
        let lt = right.1 in
        let some = right.0 in
        inr (block, omega arith, omega arith, is, inl (makes block refl))
    origin_which (Known id) saga w ws p r right is makes = inl (right.0, right.1, right.2 ∙ sym is)

    origin_one : (w : Write) (ws : List Write) (p : SagaKey) (r : SagaRow) → IsRightWrite meaning t w → Puts endpoint n p r w → Origin (w ∷ ws) p r
    unfolding Puts Makes
    origin_one (SagaPut saga corr revision which originator original fields) ws p r right h =
        let k : SagaKey = record { saga = saga; corr = corr } in
        subst (λ x. Origin (SagaPut saga corr revision which originator original fields ∷ ws) x r) (sym h.0)
        (origin_which which saga _ ws k r right.3 (ap (λ (y : SagaRow). y.id) h.1)
        (λ block is. (refl, ap (λ (x : SagaRef). block_of (SagaPut saga corr revision x originator original fields)) is)))
    origin_one (SagaErase saga corr) ws p r right h = absurd h
    origin_one (RowPut name value) ws p r right h = absurd h
    origin_one (RowErase name) ws p r right h = absurd h

    origin_more : (w : Write) (ws : List Write) (p : SagaKey) (r : SagaRow) → Origin ws p r → Origin (w ∷ ws) p r
    unfolding Origin Made
    origin_more w ws p r h = ⊎_elim
        (λ (x : (old : SagaRow) × (map.get t.sagas p ≡ Some old) × (old.id ≡ r.id)). inl x)
        (λ (x : (block : ℕ) × (0 < block) × (block < 2 ^ 64) × (r.id ≡ made_id endpoint n block) × Made p block ws). inr (x.0, x.1, x.2, x.3, inr x.4))
        h

    origin_wrote : (ws : List Write) (p : SagaKey) (r : SagaRow) → AllByRecursion (IsRightWrite meaning t) ws → Wrote endpoint n p r ws → Origin ws p r
    unfolding Wrote
    origin_wrote [] p r f h = absurd h
    origin_wrote (w ∷ ws) p r f h = ⊎_elim
        (λ (x : Puts endpoint n p r w). origin_one w ws p r f.0 x)
        (λ (x : Wrote endpoint n p r ws). origin_more w ws p r (origin_wrote ws p r f.1 x))
        h

    origin : (ws : List Write) (p : SagaKey) (r : SagaRow) → AllByRecursion (IsRightWrite meaning t) ws → map.get (written_all endpoint n t ws).sagas p ≡ Some r → Origin ws p r
    unfolding Origin
    origin ws p r f at = ⊎_elim
        (λ (was : map.get t.sagas p ≡ Some r). inl (r, was, refl))
        (λ (new : Wrote endpoint n p r ws). origin_wrote ws p r f new)
        (saga_after ws t p r at)

    -- a saga that stood before has another id than one of this commit's
    clash : (p : SagaKey) (old : SagaRow) (block : ℕ) → map.get t.sagas p ≡ Some old → 0 < block → block < 2 ^ 64 → old.id ≢ made_id endpoint n block
    clash p old block there some few = not_made_before endpoint t.commits n block old.id (omega arith) small some few (sound.sagas p old there).id

    distinct : (ws : List Write) → AreApart ws → (p q : SagaKey) (a b : SagaRow) → a.id ≡ b.id → Origin ws p a → Origin ws q b → p ≡ q
    unfolding Origin
    distinct ws f p q a b same x y = ⊎_elim
        (λ (u : (old : SagaRow) × (map.get t.sagas p ≡ Some old) × (old.id ≡ a.id)). ⊎_elim
        (λ (v : (old : SagaRow) × (map.get t.sagas q ≡ Some old) × (old.id ≡ b.id)). sound.ids p q u.0 v.0 u.1 v.1 (u.2 ∙ same ∙ sym v.2))
        (λ (v : (block : ℕ) × (0 < block) × (block < 2 ^ 64) × (b.id ≡ made_id endpoint n block) × Made q block ws). absurd (clash p u.0 v.0 u.1 v.1 v.2 (u.2 ∙ same ∙ v.3)))
        y)
        (λ (u : (block : ℕ) × (0 < block) × (block < 2 ^ 64) × (a.id ≡ made_id endpoint n block) × Made p block ws). ⊎_elim
        (λ (v : (old : SagaRow) × (map.get t.sagas q ≡ Some old) × (old.id ≡ b.id)). absurd (clash q v.0 u.0 v.1 u.1 u.2 (v.2 ∙ sym same ∙ u.3)))
        (λ (v : (block : ℕ) × (0 < block) × (block < 2 ^ 64) × (b.id ≡ made_id endpoint n block) × Made q block ws).
        let same_block : u.0 ≡ v.0 = (same_made endpoint endpoint n n u.0 v.0 small small u.1 v.1 u.2 v.2 (sym u.3 ∙ same ∙ v.3)).2 in
        one_place ws f p q v.0 (subst (λ i. Made p i ws) same_block u.4) v.4)
        y)
        x

    id_of_put : (which : SagaRef) (p : SagaKey) → IsPutRight t p which → IsSagaId n (saga_id_after endpoint n which)
    id_of_put (New block) p right = let lt = right.1 in let some = right.0 in made_is_saga_id endpoint n block (omega arith) (omega arith) (omega arith)
    id_of_put (Known id) p right = later_saga_id t.commits n id (omega arith) (subst (IsSagaId t.commits) right.2 (sound.sagas p right.0 right.1).id)

    sound_put : (w : Write) (p : SagaKey) (r : SagaRow) → IsRightWrite meaning t w → Puts endpoint n p r w → IsSoundSaga n p r
    unfolding Puts
    sound_put (SagaPut saga corr revision which originator original fields) p r right h =
        subst (λ (x : SagaKey × SagaRow). IsSoundSaga n x.0 x.1) (λ i. (sym h.0 i, sym h.1 i)) (record {
          corr = refl;
          kind = right.0;
          id = id_of_put which (record { saga = saga; corr = corr }) right.3;
          version = (omega arith, omega arith);
          revision = right.1;
          fields = right.2;
        })
    sound_put (SagaErase saga corr) p r right h = absurd h
    sound_put (RowPut name value) p r right h = absurd h
    sound_put (RowErase name) p r right h = absurd h

    sound_wrote : (ws : List Write) (p : SagaKey) (r : SagaRow) → AllByRecursion (IsRightWrite meaning t) ws → Wrote endpoint n p r ws → IsSoundSaga n p r
    unfolding Wrote
    sound_wrote [] p r f h = absurd h
    sound_wrote (w ∷ ws) p r f h = ⊎_elim (λ (x : Puts endpoint n p r w). sound_put w p r f.0 x) (λ (x : Wrote endpoint n p r ws). sound_wrote ws p r f.1 x) h

    later_sound : (p : SagaKey) (r : SagaRow) → IsSoundSaga t.commits p r → IsSoundSaga n p r
    later_sound p r h = record {
      corr = h.corr;
      kind = h.kind;
      id = later_saga_id t.commits n r.id (omega arith) h.id;
      version = (h.version.0, (let v = h.version.1 in omega arith));
      revision = h.revision;
      fields = h.fields;
    }

    fits_put : (w : Write) (p : SagaKey) (r : SagaRow) → IsRightWrite meaning t w → Puts endpoint n p r w → meaning.fits p.saga r ≡ true
    unfolding Puts
    fits_put (SagaPut saga corr revision which originator original fields) p r right h =
        (λ i. meaning.fits (h.0 i).saga (h.1 i)) ∙ right.4 (saga_id_after endpoint n which) n
    fits_put (SagaErase saga corr) p r right h = absurd h
    fits_put (RowPut name value) p r right h = absurd h
    fits_put (RowErase name) p r right h = absurd h

    fits_wrote : (ws : List Write) (p : SagaKey) (r : SagaRow) → AllByRecursion (IsRightWrite meaning t) ws → Wrote endpoint n p r ws → meaning.fits p.saga r ≡ true
    unfolding Wrote
    fits_wrote [] p r f h = absurd h
    fits_wrote (w ∷ ws) p r f h = ⊎_elim (λ (x : Puts endpoint n p r w). fits_put w p r f.0 x) (λ (x : Wrote endpoint n p r ws). fits_wrote ws p r f.1 x) h

    written_fit : (ws : List Write) → AllByRecursion (IsRightWrite meaning t) ws → AllFit meaning (written_all endpoint n t ws)
    written_fit ws f p r at = ⊎_elim
        (λ (was : map.get t.sagas p ≡ Some r). fit p r was)
        (λ (new : Wrote endpoint n p r ws). fits_wrote ws p r f new)
        (saga_after ws t p r at)

    written_sound : (ws : List Write) → AreApart ws → AllByRecursion (IsRightWrite meaning t) ws → IsSoundStored (record (written_all endpoint n t ws) { commits = n })
    written_sound ws a f = record {
      commits = omega arith;
      sagas = λ p r at. ⊎_elim
          (λ (was : map.get t.sagas p ≡ Some r). later_sound p r (sound.sagas p r was))
          (λ (new : Wrote endpoint n p r ws). sound_wrote ws p r f new)
          (saga_after ws t p r at);
      ids = λ p q x y at at' same. distinct ws a p q x y same (origin ws p x f at) (origin ws q y f at');
      rows = λ name r at. ⊎_elim
          (λ (was : map.get t.rows name ≡ Some r). let v = sound.rows name r was in (v.0, (let w = v.1 in omega arith)))
          (λ (new : r.version ≡ n). (omega arith, omega arith))
          (row_after ws t name r at);
    }

module _ (endpoint : List ℕ) (meaning : Meaning) (t : Stored) (plan : Plan) where
  -- sound tables stay sound
  pub sound_after_plan : IsSoundStored t → AllFit meaning t → t.commits < limit → IsRightPlan meaning t plan → IsSoundStored (after_plan endpoint t plan)
  sound_after_plan sound fit room right = written_sound endpoint (t.commits + 1) meaning t sound fit refl room plan.writes right.apart right.writes

  pub fit_after_plan : IsSoundStored t → AllFit meaning t → t.commits < limit → IsRightPlan meaning t plan → AllFit meaning (after_plan endpoint t plan)
  fit_after_plan sound fit room right = written_fit endpoint (t.commits + 1) meaning t sound fit refl room plan.writes right.writes
