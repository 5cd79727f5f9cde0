-- Statements store to rows that their keys name, and to no others.
use Rattle.std.proofs.Common.{◌≡◌, ℕ, ℤ, ◌+ℤ◌, ◌+◌, subst, List, [], ◌∷◌, ◌++◌, length, nat_lt, nat_le, Bool, true, false, Option, Some, None, Ok, Err, cond}
use Rattle.std.specs.List.{AllByRecursion}
use Rattle.std.specs.Str.{bytes_eq}
use Rattle.nb_base.specs.declared.plan.Intent.{Intent}
use Rattle.nb_base.specs.declared.plan.Target.{Target}
use Rattle.nb_base.specs.declared.plan.Target.TheVariants as target
use Rattle.nb_base.specs.declared.saga_row.SagaRow.{SagaRow}
use Rattle.nb_base.specs.declared.value.Key.{Key}
use Rattle.nb_base.specs.declared.value.Key.TheVariants.{Row}
use Rattle.nb_base.specs.declared.value.Value.{Value}
use Rattle.nb_script.specs.declared.item.Finder.{Finder}
use Rattle.nb_script.specs.declared.item.Finder.TheVariants.{Start, Find}
use Rattle.nb_script.specs.Grammar.{MakeTerm, RowTerm}
use Rattle.nb_script.specs.Grammar.{Phrase, Let, Set, Put, Add, Erase, Send, Publish, Reply, Timeout, Complete, Refuse, If, Phrases, Nil, Then, Braces, Brace, Otherwise, Nothing, Last, Chain}
use Rattle.nb_script.specs.declared.item.FieldKind.TheVariants as kind
use Rattle.nb_check.specs.Blocks.{Role, Handles, Finds, Answers, BlockTerm}
use Rattle.nb_check.specs.Fits.{saga_named}
use Rattle.nb_check.specs.Keys.{value_in, term_keys, named_row_keys, phrase_keys, phrases_keys, braces_keys, otherwise_keys, role_keys, block_keys, met_keys}
use Rattle.nb_check.specs.Kinds.{faults}
use Rattle.nb_check.specs.Meets.{is_met}
use Rattle.nb_check.specs.Statements.{value_faults, row_faults, after, phrase_faults, phrases_faults, braces_faults, otherwise_faults}
use Rattle.nb_check.specs.declared.incoming.Incoming.{Incoming}
use Rattle.nb_check.specs.declared.sight.Sight.{Sight}
use Rattle.nb_check.specs.declared.types.MessageType.{MessageType}
use Rattle.nb_check.specs.declared.types.SagaType.{SagaType}
use Rattle.nb_eval.specs.declared.scene.Instance.{Instance}
use Rattle.nb_eval.specs.declared.scene.State.{State}
use Rattle.nb_eval.specs.declared.scene.Touched.{Touched}
use Rattle.nb_eval.specs.declared.stop.Stop.TheVariants as stop
use Rattle.nb_eval.specs.declared.stop.Limit.TheVariants.{TooMany, TooLarge}
use Rattle.nb_eval.specs.Values.{Answer, ◌>>=◌, found, in_range}
use Rattle.nb_eval.specs.Worlds.{World, stored, put_row}
use Rattle.nb_eval.specs.Expressions.{number_or_zero, value_of, whole_of, text_of, truth_of, row_at}
use Rattle.nb_eval.specs.Making.{made, timed, delay_of, answered, intent, with_intent, sent, target_of}
use Rattle.nb_eval.specs.Statements.{with_field, with_fields, set_to, with_name, leave, chosen, run, in_turn, within, otherwise}
use Rattle.nb_eval.specs.Blocks.{stored_instance, new_instance, ended, enter, in_block, numbered, on_absent, on_found, on_answer, block_does, term_does, blocks_do}
use Rattle.nb_eval.proofs.Steps.{left-nil, right-nil, all-left, all-right}
use Rattle.nb_eval.proofs.Names.{known_of, named-key}
use Rattle.nb_eval.proofs.Kept.{IfDone, done-bind, done-then}

module _ (P : Key → Type 0) where
  abbrev pub Touches : State → Type 0
  Touches s = AllByRecursion (λ (t : Touched). P (Row t.name)) s.touched

  stored-all : (name : List ℕ) (v : Option ℤ) (ts : List Touched) → P (Row name) → AllByRecursion (λ (t : Touched). P (Row t.name)) ts → AllByRecursion (λ (t : Touched). P (Row t.name)) (stored name v ts)
  stored-all name v [] p h = (p, tt)
  stored-all name v (t ∷ ts) p h =
      elim (bytes_eq t.name name) as (λ b. AllByRecursion (λ (t : Touched). P (Row t.name)) (cond b (record { name = name; value = v } ∷ ts) (t ∷ stored name v ts)))
      [ true ↦ (p, h.1) | false ↦ (h.0, stored-all name v ts p h.1) ]

  -- the key of a row that is named
  named-row : (r : RowTerm) (g : Sight) → row_faults r g ≡ [] → (w : World) (s : State) → AllByRecursion P (named_row_keys r (known_of w)) → (name : List ℕ) → row_at r w s ≡ Ok name → P (Row name)
  named-row r g h w s all name is =
      (subst (λ ks. AllByRecursion P ks) (named-key r.name g (right-nil (faults r.name g) _ h) w s name is) (all-right P (term_keys r.name (known_of w)) _ all)).0

  intent-touches : (x : Intent) (s : State) → Touches s → IfDone Touches (with_intent x s)
  intent-touches x s t =
      elim (nat_le 256 (length s.intents)) as (λ b. IfDone Touches (cond {A = Answer State} b (Err (stop.Passed TooMany))
      (cond {A = Answer State} (nat_lt 1048576 (s.size + length x.body)) (Err (stop.Passed TooLarge)) (Ok (record s { intents = s.intents ++ x ∷ []; size = s.size + length x.body }))))) [
        | true ↦ tt
        | false ↦
            elim (nat_lt 1048576 (s.size + length x.body)) as (λ b. IfDone Touches (cond {A = Answer State} b (Err (stop.Passed TooLarge)) (Ok (record s { intents = s.intents ++ x ∷ []; size = s.size + length x.body }))))
            [ true ↦ tt | false ↦ t ]
      ]

  sent-touches : (x : Target) (d : Option ℕ) (m : MakeTerm) (w : World) (s : State) → Touches s → IfDone Touches (sent x d m w s)
  sent-touches x d m w s t = done-bind Touches (made m.args w s) (λ fields. with_intent (intent x d m fields s) s) (λ fields is. intent-touches (intent x d m fields s) s t)

  chosen-touches : (yes : Bool) (a b : Answer State) → IfDone Touches a → IfDone Touches b → IfDone Touches (chosen yes a b)
  chosen-touches true a b p q = p
  chosen-touches false a b p q = q

  mutual
    run-touches : (ms : List MessageType) (d : Phrase) (g : Sight) → phrase_faults ms d g ≡ [] → (w : World) (s : State) → AllByRecursion P (phrase_keys d (known_of w)) → Touches s → IfDone Touches (run d w s)
    run-touches ms (Let at q x u e c) g h w s all t = done-bind Touches (value_of e w s) (λ v. Ok (with_name x v s)) (λ v is. t)
    run-touches ms (Set at q f u e c) g h w s all t =
        done-bind Touches (value_of e w s) (λ v. set_to f v s)
        (λ v is. done-bind Touches (found s.saga) (λ i. found (with_field f v i.fields) >>= λ fields. Ok (with_fields s i fields))
        (λ i so. done-bind Touches (found (with_field f v i.fields)) (λ fields. Ok (with_fields s i fields)) (λ fields ok. t)))
    run-touches ms (Put at r u e c) g h w s all t =
        done-bind Touches (row_at r w s) (λ name. whole_of e w s >>= λ n. Ok (put_row name (Some n) s)) (λ name is.
        done-bind Touches (whole_of e w s) (λ n. Ok (put_row name (Some n) s)) (λ n so.
        stored-all name (Some n) s.touched (named-row r g (left-nil (row_faults r g) _ h) w s (all-left P (named_row_keys r (known_of w)) _ all) name is) t))
    run-touches ms (Add at r u e c) g h w s all t =
        done-bind Touches (row_at r w s) (λ name. whole_of e w s >>= λ n. in_range (number_or_zero name w s +ℤ n) >>= λ m. Ok (put_row name (Some m) s)) (λ name is.
        done-bind Touches (whole_of e w s) (λ n. in_range (number_or_zero name w s +ℤ n) >>= λ m. Ok (put_row name (Some m) s)) (λ n so.
        done-bind Touches (in_range (number_or_zero name w s +ℤ n)) (λ m. Ok (put_row name (Some m) s)) (λ m ok.
        stored-all name (Some m) s.touched (named-row r g (left-nil (row_faults r g) _ h) w s (all-left P (named_row_keys r (known_of w)) _ all) name is) t)))
    run-touches ms (Erase at r c) g h w s all t =
        done-bind Touches (row_at r w s) (λ name. Ok (put_row name None s)) (λ name is. stored-all name None s.touched (named-row r g h w s all name is) t)
    run-touches ms (Send a at d m c) g h w s all t = done-bind Touches (delay_of a w s) (λ x. sent (target_of d) x m w s) (λ x is. sent-touches (target_of d) x m w s t)
    run-touches ms (Publish at m c) g h w s all t = sent-touches target.Publish None m w s t
    run-touches ms (Reply at o m c) g h w s all t = done-bind Touches (answered o w s) (λ x. sent x None m w s) (λ x is. sent-touches x None m w s t)
    run-touches ms (Timeout at e m c) g h w s all t =
        done-bind Touches (timed e w s) (λ d. sent target.Timeout (Some d) m w s) (λ d so. sent-touches target.Timeout (Some d) m w s t)
    run-touches ms (Complete at c) g h w s all t = done-bind Touches (found s.saga) (λ i. Ok (record s { saga = Some (record i { completed = true }) })) (λ i is. t)
    run-touches ms (Refuse at r q n e c) g h w s all t = done-bind Touches (text_of e w s) (λ x. Err (stop.Refused r n x)) (λ x is. tt)
    run-touches ms (If at x b o) g h w s all t =
        let rest = right-nil (value_faults kind.Bool x g) _ h in
        let more = all-right P (term_keys x (known_of w)) _ all in
        done-bind Touches (truth_of x w s) (λ yes. chosen yes (within b w s) (otherwise o w s))
        (λ yes is. chosen-touches yes (within b w s) (otherwise o w s) (within-touches ms b g (left-nil (braces_faults ms b g) _ rest) w s (all-left P (braces_keys b (known_of w)) _ more) t)
        (otherwise-touches ms o g (right-nil (braces_faults ms b g) _ rest) w s (all-right P (braces_keys b (known_of w)) _ more) t))

    turn-touches : (ms : List MessageType) (ds : Phrases) (g : Sight) → phrases_faults ms ds g ≡ [] → (w : World) (s : State) → AllByRecursion P (phrases_keys ds (known_of w)) → Touches s → IfDone Touches (in_turn ds w s)
    turn-touches ms Nil g h w s all t = t
    turn-touches ms (Then d ds) g h w s all t =
        done-then Touches Touches (run d w s) (λ u. in_turn ds w u) (run-touches ms d g (left-nil (phrase_faults ms d g) _ h) w s (all-left P (phrase_keys d (known_of w)) _ all) t)
        (λ u p. turn-touches ms ds (after d g) (right-nil (phrase_faults ms d g) _ h) w u (all-right P (phrase_keys d (known_of w)) _ all) p)

    pub within-touches : (ms : List MessageType) (b : Braces) (g : Sight) → braces_faults ms b g ≡ [] → (w : World) (s : State) → AllByRecursion P (braces_keys b (known_of w)) → Touches s → IfDone Touches (within b w s)
    within-touches ms (Brace o body c) g h w s all t = done-then Touches Touches (in_turn body w s) (λ u. Ok (leave s.names u)) (turn-touches ms body g h w s all t) (λ u p. p)

    otherwise-touches : (ms : List MessageType) (o : Otherwise) (g : Sight) → otherwise_faults ms o g ≡ [] → (w : World) (s : State) → AllByRecursion P (otherwise_keys o (known_of w)) → Touches s → IfDone Touches (otherwise o w s)
    otherwise-touches ms Nothing g h w s all t = t
    otherwise-touches ms (Last at b) g h w s all t = within-touches ms b g h w s all t
    otherwise-touches ms (Chain at q x b o) g h w s all t =
        let rest = right-nil (value_faults kind.Bool x g) _ h in
        let more = all-right P (term_keys x (known_of w)) _ all in
        done-bind Touches (truth_of x w s) (λ yes. chosen yes (within b w s) (otherwise o w s))
        (λ yes is. chosen-touches yes (within b w s) (otherwise o w s) (within-touches ms b g (left-nil (braces_faults ms b g) _ rest) w s (all-left P (braces_keys b (known_of w)) _ more) t)
        (otherwise-touches ms o g (right-nil (braces_faults ms b g) _ rest) w s (all-right P (braces_keys b (known_of w)) _ more) t))

  module _ (ms : List MessageType) (b : Braces) (g : Sight) (fine : braces_faults ms b g ≡ []) (w : World) (all : AllByRecursion P (braces_keys b (known_of w))) where
    in_block-touches : (saga : Option Instance) (s : State) → Touches s → IfDone Touches (in_block saga b w s)
    in_block-touches saga s t = done-then Touches Touches (within b w (enter saga s)) (λ u. Ok (ended u)) (within-touches ms b g fine w (enter saga s) all t) (λ u p. p)

    absent-touches : (f : Finder) (y : SagaType) (v : Value) (block : ℕ) (s : State) → Touches s → IfDone Touches (on_absent f y v block b w s)
    absent-touches Start y v block s t = done-bind Touches (numbered block) (λ n. in_block (Some (new_instance y v n w)) b w s) (λ n is. in_block-touches (Some (new_instance y v n w)) s t)
    absent-touches Find y v block s t = t

    found-touches : (f : Finder) (y : SagaType) (v : Value) (block : ℕ) (o : Option SagaRow) (s : State) → Touches s → IfDone Touches (on_found f y v block o b w s)
    found-touches f y v block None s t = absent-touches f y v block s t
    found-touches f y v block (Some row) s t = in_block-touches (Some (stored_instance y row)) s t

    answer-touches : (y : SagaType) (o : Option SagaRow) (s : State) → Touches s → IfDone Touches (on_answer y o b w s)
    answer-touches y None s t = t
    answer-touches y (Some row) s t = in_block-touches (Some (stored_instance y row)) s t

    role-touches : (types : List SagaType) (block : ℕ) (r : Role) (s : State) → Touches s → IfDone Touches (block_does types block r b w s)
    role-touches types block Handles s t = in_block-touches None s t
    role-touches types block (Finds f saga field) s t =
        done-bind Touches (found (value_in field w.fields)) _ (λ v is. done-bind Touches (found (saga_named saga types)) _ (λ y so. found-touches f y v block _ s t))
    role-touches types block (Answers a saga) s t = done-bind Touches (found (saga_named saga types)) _ (λ y so. answer-touches y _ s t)

  pub blocks-touches : (ms : List MessageType) (types : List SagaType) (m : Incoming) (w : World) (block : ℕ) (bs : List BlockTerm) → AllByRecursion (λ (b : BlockTerm). (g : Sight) × (braces_faults ms b.body g ≡ [])) bs
      → AllByRecursion P (met_keys m (known_of w) bs) → (s : State) → Touches s → IfDone Touches (blocks_do types m block bs w s)
  blocks-touches ms types m w block [] fine all s t = t
  blocks-touches ms types m w block (b ∷ bs) fine all s t =
      (elim (is_met m b) as (λ y. AllByRecursion P (cond y (block_keys m (known_of w) b) [] ++ met_keys m (known_of w) bs) →
      IfDone Touches (cond y (term_does types block b w s >>= λ u. blocks_do types m (block + 1) bs w u) (blocks_do types m block bs w s))) [
        | true ↦ λ all.
            done-then Touches Touches (term_does types block b w s) (λ u. blocks_do types m (block + 1) bs w u)
            (role-touches ms b.body fine.0.0 fine.0.1 w (all-right P (role_keys m (known_of w) b.role) _ (all-left P (block_keys m (known_of w) b) _ all)) types block b.role s t)
            (λ u p. blocks-touches ms types m w (block + 1) bs fine.1 (all-right P (block_keys m (known_of w) b) _ all) u p)
        | false ↦ λ all. blocks-touches ms types m w block bs fine.1 all s t
      ]) all
