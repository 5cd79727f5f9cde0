-- A checked script never meets a value of a wrong kind.
use Rattle.std.proofs.Common.{◌≡◌, ◌≤◌, ◌<◌, ◌+◌, ◌^◌, ℕ, zero, suc, refl, sym, ap, ◌∙◌, subst, List, [], ◌∷◌, ◌++◌, length, slice_get, nat_lt, true, false, Option, Some, None, option_map, option_and_then, Ok, Err, cond, arith}
use Rattle.std.proofs.lemmas.Bool.{ltb-false}
use Rattle.std.specs.List.{AllByRecursion}
use Rattle.std.specs.Str.{bytes_eq}
use Rattle.nb_base.specs.Messages.{Message}
use Rattle.nb_base.specs.declared.saga_row.SagaRow.{SagaRow}
use Rattle.nb_base.specs.declared.saga_row.Seen.{Seen}
use Rattle.nb_base.specs.declared.saga_row.Seen.TheVariants.{Absent, Saga as SagaSeen, Row as RowSeen}
use Rattle.nb_base.specs.declared.value.Field.{Field}
use Rattle.nb_base.specs.declared.value.Key.{Key}
use Rattle.nb_base.specs.declared.value.Key.TheVariants as key
use Rattle.nb_base.specs.declared.value.Value.{Value}
use Rattle.nb_headers.specs.Reads.{message_type}
use Rattle.nb_script.specs.declared.item.FieldKind.{FieldKind}
use Rattle.nb_script.specs.declared.item.Finder.{Finder}
use Rattle.nb_script.specs.declared.item.Finder.TheVariants.{Start, Find}
use Rattle.nb_script.specs.Grammar.{Braces, ItemTerm, Message as MessageTerm, Handler, Saga}
use Rattle.nb_check.specs.Blocks.{Role, Handles, Finds, Answers, BlockTerm, blocks}
use Rattle.nb_check.specs.Breaches.{again, twice}
use Rattle.nb_check.specs.Checks.{declared_names, body_fields, fields_by}
use Rattle.nb_check.specs.Declarations.{type_text, declared_all, messages, names_of, sagas}
use Rattle.nb_check.specs.Fits.{kind_of, fits, fits_if, fits_type, saga_named}
use Rattle.nb_check.specs.Keys.{value_in}
use Rattle.nb_check.specs.Meets.{incoming, incoming_as, incoming_of, is_met, number_if, met_from}
use Rattle.nb_check.specs.Rules.{script_faults, sight, placed_messages}
use Rattle.nb_check.specs.Statements.{fields_of, braces_faults}
use Rattle.nb_check.specs.declared.breach.CheckKind.TheVariants.{MessageTwice}
use Rattle.nb_check.specs.declared.breach.Placed.{Placed}
use Rattle.nb_check.specs.declared.incoming.Incoming.{Incoming}
use Rattle.nb_check.specs.declared.types.Declared.{Declared}
use Rattle.nb_check.specs.declared.types.MessageType.{MessageType}
use Rattle.nb_check.specs.declared.types.SagaType.{SagaType}
use Rattle.nb_eval.specs.declared.scene.Instance.{Instance}
use Rattle.nb_eval.specs.declared.scene.State.{State}
use Rattle.nb_eval.specs.declared.stop.Stop.TheVariants as stop
use Rattle.nb_eval.specs.Values.{Answer, ◌>>=◌, found}
use Rattle.nb_eval.specs.Worlds.{World, saga_there}
use Rattle.nb_eval.specs.Statements.{within}
use Rattle.nb_eval.specs.Blocks.{stored_instance, new_instance, ended, enter, in_block, numbered, on_absent, on_found, on_answer, block_does, term_does, blocks_do}
use Rattle.nb_eval.specs.Meanings.{FitsLook}
use Rattle.nb_eval.specs.Verdicts.{nothing_done, plan_of, world_at, handled}
use Rattle.nb_eval.proofs.Steps.{left-nil, right-nil, and-left}
use Rattle.nb_eval.proofs.SameKeys.{bytes-is, bytes-refl}
use Rattle.nb_eval.proofs.Sights.{declared, instance_sight, saga_sight_of, sight_of, Good, Fine, good-bind, kind_if, kind-declared}
use Rattle.nb_eval.proofs.SoundStmts.{within-good}
use Rattle.nb_eval.proofs.CheckedBlocks.{others-differ, not-both, IsGoodRole, type_sight, sight_if, role_sight, IsGoodType, IsGoodBlock, good-blocks}
use Rattle.nb_eval.proofs.Instances.{stored-sight, new-sight, decoded-kinds}

value-found : (o : Option Value) (k : FieldKind) → kind_if o ≡ Some k → Good (λ v. kind_of v ≡ k) (found o)
value-found None k e = absurd (cc)
value-found (Some v) k e = cc

type-found : (o : Option SagaType) (t : SagaType) → o ≡ Some t → Good (λ u. u ≡ t) (found o)
type-found None t e = absurd (cc)
type-found (Some u) t e = cc

numbered-fine : (block : ℕ) → block < 2 ^ 32 → Fine (numbered block)
numbered-fine block h =
    (elim (nat_lt block (2 ^ 32)) as (λ b. nat_lt block (2 ^ 32) ≡ b → Fine (cond {A = Answer ℕ} b (Ok block) (Err stop.Wrong))) [
      | true ↦ λ e. tt
      | false ↦ λ e. absurd (omega (arith, ltb-false block (2 ^ 32) e, h))
    ]) refl

module _ (ms : List MessageType) (types : List SagaType) (w : World) (fit : FitsLook types w.look) where
  in_block-fine : (saga : Option Instance) (ts : List (List ℕ)) (b : Braces) (s : State) → braces_faults ms b (sight (Some (declared w.fields)) (saga_sight_of ts saga)) ≡ [] → Fine (in_block saga b w s)
  in_block-fine saga ts b s h =
      good-bind (λ t. sight_of w ts t ≡ sight_of w ts (enter saga s)) (λ t. Unit {0}) (within b w (enter saga s)) (λ t. Ok (ended t)) (within-good ms b w ts (enter saga s) h) (λ t e. tt)

  -- on a saga whose kinds are those of its type
  typed-fine : (i : Instance) (t : SagaType) (b : Braces) (s : State) → instance_sight t.timeouts i ≡ type_sight t → braces_faults ms b (sight (Some (declared w.fields)) (Some (type_sight t))) ≡ [] → Fine (in_block (Some i) b w s)
  typed-fine i t b s is h = in_block-fine (Some i) t.timeouts b s (subst (λ g. braces_faults ms b (sight (Some (declared w.fields)) (Some g)) ≡ []) (sym is) h)

  module _ (saga : List ℕ) (t : SagaType) (named : saga_named saga types ≡ Some t) (good : IsGoodType t) (b : Braces) (body : braces_faults ms b (sight (Some (declared w.fields)) (Some (type_sight t))) ≡ []) where
    fits-type : (row : SagaRow) → fits types saga row ≡ true → fits_type t row ≡ true
    fits-type row h = subst (λ o. fits_if o row ≡ true) named h

    stored-fine : (row : SagaRow) (s : State) → fits types saga row ≡ true → Fine (in_block (Some (stored_instance t row)) b w s)
    stored-fine row s h = typed-fine (stored_instance t row) t b s (stored-sight t row good (fits-type row h)) body

    absent-fine : (f : Finder) (v : Value) (block : ℕ) (s : State) → block < 2 ^ 32 → kind_of v ≡ t.correlation.kind → Fine (on_absent f t v block b w s)
    absent-fine Start v block s small is =
        good-bind (λ n. Unit {0}) (λ u. Unit {0}) (numbered block) (λ n. in_block (Some (new_instance t v n w)) b w s) (numbered-fine block small)
        (λ n u. typed-fine (new_instance t v n w) t b s (new-sight t v n w good is) body)
    absent-fine Find v block s small is = tt

    found-fine : (f : Finder) (v : Value) (block : ℕ) (x : Seen) (s : State) → ((row : SagaRow) → x ≡ SagaSeen row → fits types saga row ≡ true) → block < 2 ^ 32 → kind_of v ≡ t.correlation.kind → Fine (on_found f t v block (saga_there x) b w s)
    found-fine f v block Absent s fit-row small is = absent-fine f v block s small is
    found-fine f v block (SagaSeen row) s fit-row small is = stored-fine row s (fit-row row refl)
    found-fine f v block (RowSeen n k) s fit-row small is = absent-fine f v block s small is

    answer-fine : (x : Seen) (s : State) → ((row : SagaRow) → x ≡ SagaSeen row → fits types saga row ≡ true) → Fine (on_answer t (saga_there x) b w s)
    answer-fine Absent s fit-row = tt
    answer-fine (SagaSeen row) s fit-row = stored-fine row s (fit-row row refl)
    answer-fine (RowSeen n k) s fit-row = tt

  in-type : (b : Braces) (saga : List ℕ) (t : SagaType) → saga_named saga types ≡ Some t → braces_faults ms b (sight (Some (declared w.fields)) (sight_if (saga_named saga types))) ≡ [] → braces_faults ms b (sight (Some (declared w.fields)) (Some (type_sight t))) ≡ []
  in-type b saga t named h = subst (λ o. braces_faults ms b (sight (Some (declared w.fields)) (sight_if o)) ≡ []) named h

  role-fine : (r : Role) (b : Braces) (block : ℕ) (s : State) → IsGoodRole types (declared w.fields) r → braces_faults ms b (sight (Some (declared w.fields)) (role_sight types r)) ≡ [] → block < 2 ^ 32
      → Fine (block_does types block r b w s)
  role-fine Handles b block s good body small = in_block-fine None [] b s body
  role-fine (Finds f saga field) b block s good body small =
      let t = good.0 in
      let named : saga_named saga types ≡ Some t = good.1 in
      let typed = in-type b saga t named body in
      good-bind (λ v. kind_of v ≡ t.correlation.kind) (λ u. Unit {0}) (found (value_in field w.fields)) (λ v. found (saga_named saga types) >>= λ t. on_found f t v block (saga_there (w.look (key.ByCorr saga v))) b w s)
      (value-found (value_in field w.fields) t.correlation.kind (sym (kind-declared field w.fields) ∙ good.3))
      (λ v is. good-bind (λ u. u ≡ t) (λ u. Unit {0}) (found (saga_named saga types)) (λ t. on_found f t v block (saga_there (w.look (key.ByCorr saga v))) b w s) (type-found (saga_named saga types) t named)
      (λ u so. subst (λ u. Fine (on_found f u v block (saga_there (w.look (key.ByCorr saga v))) b w s)) (sym so)
      (found-fine saga t named good.2 b typed f v block (w.look (key.ByCorr saga v)) s (λ row e. fit.by_corr saga v row e) small is)))
  role-fine (Answers a saga) b block s good body small =
      let t = good.0 in
      let named : saga_named saga types ≡ Some t = good.1 in
      let typed = in-type b saga t named body in
      good-bind (λ u. u ≡ t) (λ u. Unit {0}) (found (saga_named saga types)) (λ t. on_answer t (saga_there (w.look (key.ById saga w.saga_id))) b w s) (type-found (saga_named saga types) t named)
      (λ u so. subst (λ u. Fine (on_answer u (saga_there (w.look (key.ById saga w.saga_id))) b w s)) (sym so)
      (answer-fine saga t named good.2 b typed (w.look (key.ById saga w.saga_id)) s (λ row e. fit.by_id saga w.saga_id row e)))

  some-fields : (a b : List Declared) → Some a ≡ Some b → a ≡ b
  some-fields a b e = cc

  module _ (m : Incoming) (known : fields_of m.name ms ≡ Some (declared w.fields)) where
    block-fine : (b : BlockTerm) (block : ℕ) (s : State) → IsGoodBlock ms types b → is_met m b ≡ true → block < 2 ^ 32 → Fine (term_does types block b w s)
    block-fine b block s good met small =
        let name : m.name ≡ b.name = bytes-is m.name b.name (and-left (bytes_eq m.name b.name) _ met) in
        let same : good.declared ≡ declared w.fields = some-fields good.declared (declared w.fields) (sym good.known ∙ ap (λ n. fields_of n ms) (sym name) ∙ known) in
        role-fine b.role b.body block s (subst (λ ds. IsGoodRole types ds b.role) same good.role) (subst (λ ds. braces_faults ms b.body (sight (Some ds) (role_sight types b.role)) ≡ []) same good.body) small

    blocks-fine : (block n : ℕ) (bs : List BlockTerm) (s : State) → AllByRecursion (IsGoodBlock ms types) bs → block + length (met_from m n bs) ≤ 2 ^ 32 → Fine (blocks_do types m block bs w s)
    blocks-fine block n [] s good small = tt
    blocks-fine block n (b ∷ bs) s good small =
        (elim (is_met m b) as (λ y. is_met m b ≡ y → block + length (number_if y n ++ met_from m (n + 1) bs) ≤ 2 ^ 32
        → Fine (cond y (term_does types block b w s >>= λ u. blocks_do types m (block + 1) bs w u) (blocks_do types m block bs w s))) [
          | true ↦ λ met small.
              good-bind (λ u. Unit {0}) (λ u. Unit {0}) (term_does types block b w s) (λ u. blocks_do types m (block + 1) bs w u) (block-fine b block s good.0 met (omega (arith, small)))
              (λ u v. blocks-fine (block + 1) (n + 1) bs u good.1 (omega (arith, small)))
          | false ↦ λ met small. blocks-fine block (n + 1) bs s good.1 small
        ]) refl small

-- ---- the message's type

fields-later : (name : List ℕ) (t : MessageType) (ts : List MessageType) → bytes_eq t.name name ≡ false → fields_of name (t ∷ ts) ≡ fields_of name ts
fields-later name t ts h = ap (λ b. cond b (Some t.fields) (fields_of name ts)) h

names-differ : (name : List ℕ) (items : List ItemTerm) (n : ℕ) (t : MessageType) → AllByRecursion (λ (p : Placed). bytes_eq p.name name ≡ false) (placed_messages items) → slice_get (messages items) n ≡ Some t → bytes_eq t.name name ≡ false
names-differ name [] n t h e = absurd (cc)
names-differ name (MessageTerm at y o fs c ∷ items) zero t h e = subst (λ (t : MessageType). bytes_eq t.name name ≡ false) (type-is _ t e) h.0
  where
    type-is : (a b : MessageType) → Some a ≡ Some b → a ≡ b
    type-is a b e = cc
names-differ name (MessageTerm at y o fs c ∷ items) (suc n) t h e = names-differ name items n t h.1 e
names-differ name (Handler at y b ∷ items) n t h e = names-differ name items n t h e
names-differ name (Saga s ∷ items) n t h e = names-differ name items n t h e

type-is : (a b : MessageType) → Some a ≡ Some b → a ≡ b
type-is a b e = cc

-- the first message of a declared message's name is that message
fields-at : (items : List ItemTerm) (n : ℕ) (t : MessageType) → twice MessageTwice (placed_messages items) ≡ [] → slice_get (messages items) n ≡ Some t → fields_of t.name (messages items) ≡ Some t.fields
fields-at [] n t h e = absurd (cc)
fields-at (MessageTerm at y o fs c ∷ items) zero t h e =
    subst (λ (u : MessageType). fields_of u.name (messages (MessageTerm at y o fs c ∷ items)) ≡ Some u.fields) (type-is _ t e) (ap (λ b. cond b (Some (declared_all fs)) (fields_of (type_text y) (messages items))) (bytes-refl (type_text y)))
fields-at (MessageTerm at y o fs c ∷ items) (suc n) t h e =
    let apart = others-differ MessageTwice (type_text y) (placed_messages items) (left-nil (again MessageTwice (type_text y) (placed_messages items)) _ h) in
    ap (λ b. cond b (Some (declared_all fs)) (fields_of t.name (messages items))) (not-both t.name (type_text y) (names-differ (type_text y) items n t apart e))
    ∙ fields-at items n t (right-nil (again MessageTwice (type_text y) (placed_messages items)) _ h) e
fields-at (Handler at y b ∷ items) n t h e = fields-at items n t h e
fields-at (Saga s ∷ items) n t h e = fields-at items n t h e

name-at : (ms : List MessageType) (n : ℕ) (t : MessageType) → slice_get ms n ≡ Some t → slice_get (names_of ms) n ≡ Some t.name
name-at [] n t e = absurd (cc)
name-at (u ∷ ms) zero t e = ap (λ (t : MessageType). Some t.name) (type-is u t e)
name-at (u ∷ ms) (suc n) t e = name-at ms n t e

incoming-is : (i j : Incoming) → Some i ≡ Some j → i ≡ j
incoming-is i j e = cc

-- what an incoming message is called
incoming-name : (names : List (List ℕ)) (e : Message) (o : Option ℕ) (m : Incoming) → option_and_then (incoming_of e names) o ≡ Some m → slice_get names m.message ≡ Some m.name
incoming-name names e None m h = absurd (cc)
incoming-name names e (Some n) m h = of (slice_get names n) refl h
  where
    of : (o : Option (List ℕ)) → slice_get names n ≡ o → option_map (incoming_as e n) o ≡ Some m → slice_get names m.message ≡ Some m.name
    of None is h = absurd (cc)
    of (Some name) is h = subst (λ (i : Incoming). slice_get names i.message ≡ Some i.name) (incoming-is (incoming_as e n name) m h) is

text-is : (a b : List ℕ) → Some a ≡ Some b → a ≡ b
text-is a b e = cc

pub known-message : (items : List ItemTerm) (e : Message) (m : Incoming) (fields : List Field) → twice MessageTwice (placed_messages items) ≡ [] → incoming (declared_names items) e ≡ Some m → body_fields items m.message e.body ≡ Some fields
    → fields_of m.name (messages items) ≡ Some (declared fields)
known-message items e m fields twice_free is body = of (slice_get (messages items) m.message) refl body
  where
    of : (o : Option MessageType) → slice_get (messages items) m.message ≡ o → fields_by o e.body ≡ Some fields → fields_of m.name (messages items) ≡ Some (declared fields)
    of None so h = absurd (cc)
    of (Some t) so h =
        let name : m.name ≡ t.name = text-is m.name t.name (sym (incoming-name (declared_names items) e (message_type e (declared_names items)) m is) ∙ name-at (messages items) m.message t so) in
        ap (λ n. fields_of n (messages items)) name ∙ fields-at items m.message t twice_free so ∙ ap Some (sym (decoded-kinds t.fields e.body fields h))

-- A message meets no more blocks than there are.
pub met-few : (m : Incoming) (n : ℕ) (bs : List BlockTerm) → length (met_from m n bs) ≤ length bs
met-few m n [] = omega arith
met-few m n (b ∷ bs) = (let more = met-few m (n + 1) bs in
    (elim (is_met m b) as (λ y. length (number_if y n ++ met_from m (n + 1) bs) ≤ length (b ∷ bs)) [
      | true ↦ omega (arith, more)
      | false ↦ omega (arith, more)
    ]))

-- A checked script's blocks come to a plan or to a fault of the script.
pub never-wrong : (items : List ItemTerm) → script_faults items ≡ [] → (e : Message) (at : ℕ) (look : Key → Seen) → FitsLook (sagas items) look → (m : Incoming) (fields : List Field)
    → incoming (declared_names items) e ≡ Some m → body_fields items m.message e.body ≡ Some fields → length (met_from m 0 (blocks items)) < 2 ^ 32 → Fine (handled items m (world_at e fields at look))
never-wrong items rules e at look fit m fields is body few =
    let w = world_at e fields at look in
    good-bind (λ s. Unit {0}) (λ p. Unit {0}) (blocks_do (sagas items) m 1 (blocks items) w nothing_done) (λ s. Ok (plan_of look s))
    (blocks-fine (messages items) (sagas items) w fit m (known-message items e m fields (left-nil (twice MessageTwice (placed_messages items)) _ rules) is body) 1 0 (blocks items) nothing_done (good-blocks items rules) (omega (arith, few)))
    (λ s u. tt)

pub not-wrong : {A : Type 0} (x : Answer A) → Fine x → x ≡ Err stop.Wrong → ⊥
not-wrong x fine e = subst (λ y. Fine y) e fine
