-- A plan writes nowhere else than where the message's keys lead.
use Rattle.std.proofs.Common.{◌≡◌, ℕ, suc, ℤ, ◌+◌, refl, sym, ap, ◌∙◌, subst, List, [], ◌∷◌, ◌++◌, slice_get, true, false, Option, Some, None, Ok, Err, cond, true≢false}
use Rattle.std.specs.List.{AllByRecursion}
use Rattle.std.specs.FinMap as map
use Rattle.std.specs.Str.{bytes_eq}
use Rattle.nb_base.specs.Meanings.{Meaning, IsAmong, Place, saga_at, place_of}
use Rattle.nb_base.specs.Messages.{Message, header}
use Rattle.nb_base.specs.Shown.{Stored, saga_seen, shown, with_id}
use Rattle.nb_base.specs.Sound.{IsSoundStored}
use Rattle.nb_base.specs.declared.plan.Plan.{Plan}
use Rattle.nb_base.specs.declared.plan.SagaRef.{SagaRef}
use Rattle.nb_base.specs.declared.plan.SagaRef.TheVariants as saga_ref
use Rattle.nb_base.specs.declared.plan.Verdict.TheVariants as verdict
use Rattle.nb_base.specs.declared.plan.Write.{Write}
use Rattle.nb_base.specs.declared.saga_row.SagaRow.{SagaRow}
use Rattle.nb_base.specs.declared.saga_row.Seen.{Seen}
use Rattle.nb_base.specs.declared.saga_row.Seen.TheVariants.{Absent, Saga as SagaSeen, Row as RowSeen}
use Rattle.nb_base.specs.declared.value.Field.{Field}
use Rattle.nb_base.specs.declared.value.Key.{Key}
use Rattle.nb_base.specs.declared.value.Key.TheVariants as key
use Rattle.nb_base.specs.declared.value.Value.{Value}
use Rattle.nb_headers.specs.HeaderNames.{saga_id, saga_type}
use Rattle.nb_headers.specs.Reads.{id_of, message_type}
use Rattle.nb_script.specs.declared.item.Finder.{Finder}
use Rattle.nb_script.specs.declared.item.Finder.TheVariants.{Start, Find}
use Rattle.nb_script.specs.Grammar.{Braces, ItemTerm}
use Rattle.nb_check.specs.Blocks.{Role, Handles, Finds, Answers, BlockTerm, blocks}
use Rattle.nb_check.specs.Checks.{declared_names, body_fields, fields_by, blocks_met, keys_read}
use Rattle.nb_check.specs.Declarations.{messages, sagas}
use Rattle.nb_check.specs.Fits.{saga_named}
use Rattle.nb_check.specs.Keys.{value_in, corr_key, id_key, role_keys, block_keys, met_keys, same_key, has_key, with_keys, keys_for, keys_by, fields_for}
use Rattle.nb_check.specs.Meets.{incoming, address_of, fits_role, is_met}
use Rattle.nb_check.specs.Rules.{script_faults}
use Rattle.nb_check.specs.Sends.{sends, braces_sends, blocks_sends}
use Rattle.nb_check.specs.declared.incoming.Incoming.{Incoming}
use Rattle.nb_check.specs.declared.types.MessageType.{MessageType}
use Rattle.nb_check.specs.declared.types.SagaType.{SagaType}
use Rattle.nb_eval.specs.declared.scene.Instance.{Instance}
use Rattle.nb_eval.specs.declared.scene.State.{State}
use Rattle.nb_eval.specs.declared.scene.Touched.{Touched}
use Rattle.nb_eval.specs.Values.{Answer, ◌>>=◌, found}
use Rattle.nb_eval.specs.Worlds.{World, saga_there}
use Rattle.nb_eval.specs.Statements.{within}
use Rattle.nb_eval.specs.Blocks.{stored_instance, new_instance, put_saga, completed_write, instance_write, saga_write, ended, enter, in_block, numbered, on_absent, on_found, on_answer, block_does, term_does, blocks_do}
use Rattle.nb_eval.specs.Meanings.{meaning_of}
use Rattle.nb_eval.specs.Reach.{IsKey, LeadsTo, IsReached, AreReached}
use Rattle.nb_eval.specs.Verdicts.{nothing_done, row_write, row_writes, plan_of, world_at, handled, verdict_of, on_body, on_met, on_type, verdict_over}
use Rattle.nb_eval.proofs.Steps.{and-right, all-left, all-right, all-both}
use Rattle.nb_eval.proofs.SameKeys.{same_key-is, all-has}
use Rattle.nb_eval.proofs.Names.{known_of}
use Rattle.nb_eval.proofs.Kept.{IfDone, done-bind, done-then, SameSaga, Kept, within-kept}
use Rattle.nb_eval.proofs.LocalBlocks.{IsAddressed, found-is, role-addressed}
use Rattle.nb_eval.proofs.LocalVerdicts.{by-id, incoming-address, bodies-fine, done-is}
use Rattle.nb_eval.proofs.CheckedBlocks.{good-blocks}
use Rattle.nb_eval.proofs.MeaningLaws.{all-among}
use Rattle.nb_eval.proofs.RightBlocks.{name-is}
use Rattle.nb_eval.proofs.Within.{Touches, blocks-touches}

-- ---- what the blocks change is where their keys lead

module _ (meaning : Meaning) (t : Stored) (sound : IsSoundStored t) (P : Key → Type 0) where
  -- one of the keys leads there
  abbrev pub Reaches : Place → Type 0
  Reaches p = (k : Key) × P k × LeadsTo t k p

  abbrev pub Reached : List Write → Type 0
  Reached ws = AllByRecursion (λ x. Reaches (place_of x)) ws

  one-row : (name : List ℕ) (v : Option ℤ) (s : Seen) → P (key.Row name) → Reached (row_write name v s)
  one-row name (Some n) s p = ((key.Row name, p, refl), tt)
  one-row name None Absent p = tt
  one-row name None (SagaSeen row) p = tt
  one-row name None (RowSeen version value) p = ((key.Row name, p, refl), tt)

  pub rows-reached : (look : Key → Seen) (ts : List Touched) → AllByRecursion (λ (x : Touched). P (key.Row x.name)) ts → Reached (row_writes look ts)
  rows-reached look [] h = tt
  rows-reached look (x ∷ ts) h =
      all-both (λ x. Reaches (place_of x)) (row_write x.name x.value (look (key.Row x.name))) (row_writes look ts) (one-row x.name x.value (look (key.Row x.name)) h.0) (rows-reached look ts h.1)

  abbrev At : Instance → Type 0
  At i = Reaches (saga_at (record { saga = i.saga; corr = i.corr }))

  one-saga : (j : Instance) → At j → Reached (instance_write j)
  one-saga j h = elim j.completed as (λ b. Reached (cond b (completed_write j.which j) (put_saga j ∷ []))) [ true ↦ gone j.which | false ↦ (h, tt) ]
    where
      gone : (r : SagaRef) → Reached (completed_write r j)
      gone (saga_ref.New b) = tt
      gone (saga_ref.Stored id) = (h, tt)

  module _ (types : List SagaType) (m : Incoming) (w : World) (look : w.look ≡ shown t) (addressed : IsAddressed m w) where
    abbrev Done : State → Type 0
    Done s = Reached s.writes

    module _ (b : Braces) (sent : AllByRecursion (λ n. IsAmong n meaning.sends) (braces_sends b)) where
      -- the statements of a block leave its saga where it is
      in_block-reached : (o : Option Instance) (s : State) → ((i : Instance) → o ≡ Some i → At i) → Done s → IfDone Done (in_block o b w s)
      in_block-reached o s there h =
          done-bind Done (within b w (enter o s)) (λ u. Ok (ended u)) (λ u so.
          let kept : Kept meaning (enter o s) u = subst (λ x. IfDone (Kept meaning (enter o s)) x) so (within-kept meaning b w (enter o s) sent) in
          subst (λ ws. Reached (ws ++ saga_write u.saga)) (sym kept.writes) (all-both (λ x. Reaches (place_of x)) s.writes (saga_write u.saga) h (end o u.saga there kept.saga)))
        where
          end : (o p : Option Instance) → ((i : Instance) → o ≡ Some i → At i) → SameSaga o p → Reached (saga_write p)
          end o None there same = tt
          end None (Some j) there same = absurd same
          end (Some i) (Some j) there same = one-saga j (subst (λ (x : Instance). At x) (sym same) (there i refl))

      some-is : (i j : Instance) → Some i ≡ Some j → i ≡ j
      some-is i j e = cc

      saga-reached : (i : Instance) (s : State) → At i → Done s → IfDone Done (in_block (Some i) b w s)
      saga-reached i s at h = in_block-reached (Some i) s (λ j e. subst At (some-is i j e) at) h

      module _ (saga : List ℕ) (y : SagaType) (is : y.name ≡ saga) where
        absent-reached : (f : Finder) (v : Value) (block : ℕ) (s : State) → P (key.ByCorr saga v) → Done s → IfDone Done (on_absent f y v block b w s)
        absent-reached Start v block s p h =
            done-bind Done (numbered block) (λ n. in_block (Some (new_instance y v n w)) b w s)
            (λ n e. saga-reached (new_instance y v n w) s (key.ByCorr saga v, p, ap (λ x. saga_at (record { saga = x; corr = v })) is) h)
        absent-reached Find v block s p h = h

        found-reached : (f : Finder) (v : Value) (block : ℕ) (o : Option SagaRow) (s : State) → map.get t.sagas (record { saga = saga; corr = v }) ≡ o → P (key.ByCorr saga v) → Done s
            → IfDone Done (on_found f y v block (saga_there (saga_seen o)) b w s)
        found-reached f v block None s e p h = absent-reached f v block s p h
        found-reached f v block (Some row) s e p h =
            let corr : row.corr ≡ v = (sound.sagas (record { saga = saga; corr = v }) row e).corr in
            saga-reached (stored_instance y row) s
            (key.ByCorr saga v, p, ap (λ x. saga_at (record { saga = x; corr = row.corr })) is ∙ ap (λ c. saga_at (record { saga = saga; corr = c })) corr) h

        answer-reached : (id : List ℕ) (o : Option SagaRow) (s : State) → with_id saga id (map.entries t.sagas) ≡ o → P (key.ById saga id) → Done s → IfDone Done (on_answer y (saga_there (saga_seen o)) b w s)
        answer-reached id None s e p h = h
        answer-reached id (Some row) s e p h =
            saga-reached (stored_instance y row) s (key.ById saga id, p, (row, ap saga_seen e, ap (λ x. saga_at (record { saga = x; corr = row.corr })) is)) h

      role-reached : (block : ℕ) (r : Role) (s : State) → fits_role m r ≡ true → AllByRecursion P (role_keys m (known_of w) r) → Done s → IfDone Done (block_does types block r b w s)
      role-reached block Handles s met keys h = in_block-reached None s (λ i e. absurd (cc)) h
      role-reached block (Finds f saga field) s met keys h =
          done-bind Done (found (value_in field w.fields)) (λ v. found (saga_named saga types) >>= λ z. on_found f z v block (saga_there (w.look (key.ByCorr saga v))) b w s) (λ v is.
          done-bind Done (found (saga_named saga types)) (λ z. on_found f z v block (saga_there (w.look (key.ByCorr saga v))) b w s) (λ y so.
          let p : P (key.ByCorr saga v) = (subst (λ o. AllByRecursion P (corr_key saga o)) (found-is (value_in field w.fields) v is) keys).0 in
          subst (λ l. IfDone Done (on_found f y v block (saga_there (l (key.ByCorr saga v))) b w s)) (sym look)
          (found-reached saga y (name-is saga types y (found-is (saga_named saga types) y so)) f v block (map.get t.sagas (record { saga = saga; corr = v })) s refl p h)))
      role-reached block (Answers a saga) s met keys h =
          let d = role-addressed m a saga met in
          let p : P (key.ById saga w.saga_id) = subst (λ i. P (key.ById saga i)) (addressed d.0 d.1) (subst (λ o. AllByRecursion P (id_key saga o)) d.1 keys).0 in
          done-bind Done (found (saga_named saga types)) (λ z. on_answer z (saga_there (w.look (key.ById saga w.saga_id))) b w s) (λ y so.
          subst (λ l. IfDone Done (on_answer y (saga_there (l (key.ById saga w.saga_id))) b w s)) (sym look)
          (answer-reached saga y (name-is saga types y (found-is (saga_named saga types) y so)) w.saga_id (with_id saga w.saga_id (map.entries t.sagas)) s refl p h))

    pub blocks-reached : (block : ℕ) (bs : List BlockTerm) → AllByRecursion (λ n. IsAmong n meaning.sends) (blocks_sends bs) → AllByRecursion P (met_keys m (known_of w) bs) → (s : State) → Done s → IfDone Done (blocks_do types m block bs w s)
    blocks-reached block [] sent keys s h = h
    blocks-reached block (b ∷ bs) sent keys s h =
        let mine = all-left (λ n. IsAmong n meaning.sends) (braces_sends b.body) (blocks_sends bs) sent in
        let rest = all-right (λ n. IsAmong n meaning.sends) (braces_sends b.body) (blocks_sends bs) sent in
        (elim (is_met m b) as (λ y. is_met m b ≡ y → AllByRecursion P (cond y (block_keys m (known_of w) b) [] ++ met_keys m (known_of w) bs)
        → IfDone Done (cond y (term_does types block b w s >>= λ u. blocks_do types m (block + 1) bs w u) (blocks_do types m block bs w s))) [
          | true ↦ λ met keys.
              done-then Done Done (term_does types block b w s) (λ u. blocks_do types m (block + 1) bs w u)
              (role-reached b.body mine block b.role s (and-right (bytes_eq m.name b.name) _ met) (all-left P (role_keys m (known_of w) b.role) _ (all-left P (block_keys m (known_of w) b) _ keys)) h)
              (λ u more. blocks-reached (block + 1) bs rest (all-right P (block_keys m (known_of w) b) _ keys) u more)
          | false ↦ λ met keys. blocks-reached block bs rest keys s h
        ]) refl keys

-- ---- the keys of a message

has-is : (ks : List Key) (k : Key) → has_key k ks ≡ true → IsKey ks k
has-is [] k h = absurd (true≢false (sym h))
has-is (j ∷ js) k h =
    (elim (same_key j k) as (λ b. same_key j k ≡ b → cond b true (has_key k js) ≡ true → IsKey (j ∷ js) k) [
      | true ↦ λ e h. (0, ap Some (same_key-is j k e))
      | false ↦ λ e h. let r = has-is js k h in (suc r.0, r.1)
    ]) refl h

each-is : (ks js : List Key) → AllByRecursion (λ j. has_key j ks ≡ true) js → AllByRecursion (IsKey ks) js
each-is ks [] h = tt
each-is ks (j ∷ js) h = (has-is ks j h.0, each-is ks js h.1)

fields-same : (o : Option MessageType) (e : Message) → fields_by o e.body ≡ fields_for e o
fields-same None e = refl
fields-same (Some y) e = refl

plan-is : (p q : Plan) → verdict.Done p ≡ verdict.Done q → p ≡ q
plan-is p q h = cc

module _ (items : List ItemTerm) (rules : script_faults items ≡ []) (t : Stored) (sound : IsSoundStored t) (e : Message) (at : ℕ) where
  handled-reached : (m : Incoming) (fields : List Field) → m.address ≡ address_of e → IfDone (AreReached t (with_keys [] (met_keys m (record { id = id_of e; fields = fields }) (blocks items)))) (handled items m (world_at e fields at (shown t)))
  handled-reached m fields from =
      let w = world_at e fields at (shown t) in
      let met = met_keys m (record { id = id_of e; fields = fields }) (blocks items) in
      let ks = with_keys [] met in
      let keys = each-is ks met (all-has [] met) in
      let addressed : IsAddressed m w = λ a is. by-id (header e.headers saga_type) (header e.headers saga_id) a (sym from ∙ is) in
      let fine = bodies-fine (messages items) (sagas items) (blocks items) (good-blocks items rules) in
      let run = blocks_do (sagas items) m 1 (blocks items) w nothing_done in
      done-bind (AreReached t ks) run (λ s. Ok (plan_of (shown t) s)) (λ s is.
      all-both (IsReached t ks) s.writes (row_writes (shown t) s.touched)
      (done-is (λ (s : State). Reached (meaning_of items) t sound (IsKey ks) s.writes) run s (blocks-reached (meaning_of items) t sound (IsKey ks) (sagas items) m w refl addressed 1 (blocks items) (all-among (sends items)) keys nothing_done tt) is)
      (rows-reached (meaning_of items) t sound (IsKey ks) (shown t) s.touched (done-is (Touches (IsKey ks)) run s (blocks-touches (IsKey ks) (messages items) (sagas items) m w 1 (blocks items) fine keys nothing_done tt) is)))

  of-answer : (ks : List Key) (x : Answer Plan) (plan : Plan) → IfDone (AreReached t ks) x → verdict_of x ≡ verdict.Done plan → AreReached t ks plan
  of-answer ks (Ok p) plan done h = subst (λ p. AreReached t ks p) (plan-is p plan h) done
  of-answer ks (Err s) plan done h = absurd (cc)

  of-body : (m : Incoming) (o : Option (List Field)) (plan : Plan) → m.address ≡ address_of e → on_body items (shown t) e at m o ≡ verdict.Done plan → AreReached t (keys_for items e m o) plan
  of-body m None plan from h = absurd (cc)
  of-body m (Some fields) plan from h = of-answer (keys_for items e m (Some fields)) (handled items m (world_at e fields at (shown t))) plan (handled-reached m fields from) h

  of-met : (m : Incoming) (ns : List ℕ) (plan : Plan) → m.address ≡ address_of e → on_met items (shown t) e at m ns ≡ verdict.Done plan → AreReached t (keys_for items e m (fields_for e (slice_get (messages items) m.message))) plan
  of-met m [] plan from h = absurd (cc)
  of-met m (n ∷ ns) plan from h = subst (λ o. AreReached t (keys_for items e m o) plan) (fields-same (slice_get (messages items) m.message) e) (of-body m (body_fields items m.message e.body) plan from h)

  of-type : (o : Option Incoming) (plan : Plan) → incoming (declared_names items) e ≡ o → on_type items (shown t) e at o ≡ verdict.Done plan → AreReached t (keys_by items (messages items) e o) plan
  of-type None plan is h = absurd (cc)
  of-type (Some m) plan is h = of-met m (blocks_met items e) plan (incoming-address (declared_names items) e (message_type e (declared_names items)) m is) h

  -- each change of a plan is where one of the message's keys leads
  pub plan-reached : (plan : Plan) → verdict_over items (shown t) e at ≡ verdict.Done plan → AreReached t (keys_read items e) plan
  plan-reached plan h = of-type (incoming (declared_names items) e) plan refl h
