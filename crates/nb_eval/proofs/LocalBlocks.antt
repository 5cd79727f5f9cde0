-- The verdict depends on the tables at the message's keys alone.
use Rattle.std.proofs.Common.{◌≡◌, ℕ, ◌+◌, refl, sym, ap, ◌∙◌, subst, List, [], ◌∷◌, ◌++◌, true, false, not, Option, Some, None, Ok, cond, true≢false}
use Rattle.std.specs.List.{AllByRecursion}
use Rattle.std.specs.Str.{bytes_eq}
use Rattle.nb_base.specs.declared.saga_row.SagaRow.{SagaRow}
use Rattle.nb_base.specs.declared.saga_row.Seen.{Seen}
use Rattle.nb_base.specs.declared.value.Key.{Key}
use Rattle.nb_base.specs.declared.value.Key.TheVariants as key
use Rattle.nb_base.specs.declared.value.Value.{Value}
use Rattle.nb_script.specs.declared.item.Answer.{Answer as AnswerWord}
use Rattle.nb_script.specs.declared.item.Answer.TheVariants.{Reply, Timeout}
use Rattle.nb_script.specs.declared.item.Finder.{Finder}
use Rattle.nb_script.specs.declared.item.Finder.TheVariants.{Start, Find}
use Rattle.nb_script.specs.Grammar.{Braces}
use Rattle.nb_check.specs.Blocks.{Role, Handles, Finds, Answers, BlockTerm}
use Rattle.nb_check.specs.Fits.{saga_named}
use Rattle.nb_check.specs.Keys.{value_in, corr_key, id_key, role_keys, block_keys, met_keys, braces_keys}
use Rattle.nb_check.specs.Meets.{addresses, fits_role, is_met}
use Rattle.nb_check.specs.Statements.{braces_faults}
use Rattle.nb_check.specs.declared.incoming.Address.{Address}
use Rattle.nb_check.specs.declared.incoming.Incoming.{Incoming}
use Rattle.nb_check.specs.declared.sight.Sight.{Sight}
use Rattle.nb_check.specs.declared.types.MessageType.{MessageType}
use Rattle.nb_check.specs.declared.types.SagaType.{SagaType}
use Rattle.nb_eval.specs.declared.scene.Instance.{Instance}
use Rattle.nb_eval.specs.declared.scene.State.{State}
use Rattle.nb_eval.specs.Values.{◌>>=◌, found}
use Rattle.nb_eval.specs.Worlds.{World, saga_there}
use Rattle.nb_eval.specs.Blocks.{stored_instance, new_instance, ended, enter, in_block, numbered, on_absent, on_found, on_answer, block_does, term_does, blocks_do}
use Rattle.nb_eval.proofs.Steps.{and-right, bind-same}
use Rattle.nb_eval.proofs.SameKeys.{Agree}
use Rattle.nb_eval.proofs.Names.{known_of}
use Rattle.nb_eval.proofs.Local.{at_look, agree-left, agree-right, within-local}

pub found-is : {A : Type 0} (o : Option A) (v : A) → found o ≡ Ok v → o ≡ Some v
found-is None v e = absurd (cc)
found-is (Some u) v e = cc

module _ (ms : List MessageType) (b : Braces) (g : Sight) (fine : braces_faults ms b g ≡ []) (w : World) (l : Key → Seen) (agree : Agree w.look l (braces_keys b (known_of w))) where
  in_block-local : (saga : Option Instance) (s : State) → in_block saga b (at_look w l) s ≡ in_block saga b w s
  in_block-local saga s = ap (λ x. x >>= λ t. Ok (ended t)) (within-local ms b g fine w (enter saga s) l agree)

  absent-local : (f : Finder) (t : SagaType) (v : Value) (block : ℕ) (s : State) → on_absent f t v block b (at_look w l) s ≡ on_absent f t v block b w s
  absent-local Start t v block s =
      bind-same (numbered block) (λ n. in_block (Some (new_instance t v n (at_look w l))) b (at_look w l) s) (λ n. in_block (Some (new_instance t v n w)) b w s)
      (λ n e. in_block-local (Some (new_instance t v n w)) s)
  absent-local Find t v block s = refl

  found-local : (f : Finder) (t : SagaType) (v : Value) (block : ℕ) (o : Option SagaRow) (s : State) → on_found f t v block o b (at_look w l) s ≡ on_found f t v block o b w s
  found-local f t v block None s = absent-local f t v block s
  found-local f t v block (Some row) s = in_block-local (Some (stored_instance t row)) s

  answer-local : (t : SagaType) (o : Option SagaRow) (s : State) → on_answer t o b (at_look w l) s ≡ on_answer t o b w s
  answer-local t None s = refl
  answer-local t (Some row) s = in_block-local (Some (stored_instance t row)) s

-- what is said of the saga that the headers name
abbrev pub IsAddressed : Incoming → World → Type 0
IsAddressed m w = (a : Address) → m.address ≡ Some a → a.id ≡ w.saga_id

addressed : (o : Option Address) (saga : List ℕ) → addresses o saga ≡ true → (a : Address) × (o ≡ Some a)
addressed None saga h = absurd (true≢false (sym h))
addressed (Some a) saga h = (a, refl)

pub role-addressed : (m : Incoming) (a : AnswerWord) (saga : List ℕ) → fits_role m (Answers a saga) ≡ true → (d : Address) × (m.address ≡ Some d)
role-addressed m Reply saga h = addressed m.address saga (and-right (not m.timeout) _ h)
role-addressed m Timeout saga h = addressed m.address saga (and-right m.timeout _ h)

module _ (ms : List MessageType) (types : List SagaType) (m : Incoming) (w : World) (l : Key → Seen) (at : IsAddressed m w) where
  role-local : (block : ℕ) (r : Role) (b : Braces) (g : Sight) → braces_faults ms b g ≡ [] → fits_role m r ≡ true → Agree w.look l (role_keys m (known_of w) r) → Agree w.look l (braces_keys b (known_of w)) → (s : State)
      → block_does types block r b (at_look w l) s ≡ block_does types block r b w s
  role-local block Handles b g fine met keys agree s = in_block-local ms b g fine w l agree None s
  role-local block (Finds f saga field) b g fine met keys agree s =
      bind-same (found (value_in field w.fields)) (λ v. found (saga_named saga types) >>= λ t. on_found f t v block (saga_there (l (key.ByCorr saga v))) b (at_look w l) s)
      (λ v. found (saga_named saga types) >>= λ t. on_found f t v block (saga_there (w.look (key.ByCorr saga v))) b w s)
      (λ v is.
      let same : w.look (key.ByCorr saga v) ≡ l (key.ByCorr saga v) = (subst (λ o. Agree w.look l (corr_key saga o)) (found-is (value_in field w.fields) v is) keys).0 in
      bind-same (found (saga_named saga types)) (λ t. on_found f t v block (saga_there (l (key.ByCorr saga v))) b (at_look w l) s) (λ t. on_found f t v block (saga_there (w.look (key.ByCorr saga v))) b w s)
      (λ t so.
      ap (λ x. on_found f t v block (saga_there x) b (at_look w l) s) (sym same) ∙ found-local ms b g fine w l agree f t v block (saga_there (w.look (key.ByCorr saga v))) s))
  role-local block (Answers a saga) b g fine met keys agree s =
      let d = role-addressed m a saga met in
      let id : d.0.id ≡ w.saga_id = at d.0 d.1 in
      let key-id : w.look (key.ById saga d.0.id) ≡ l (key.ById saga d.0.id) = (subst (λ o. Agree w.look l (id_key saga o)) d.1 keys).0 in
      let same : w.look (key.ById saga w.saga_id) ≡ l (key.ById saga w.saga_id) = subst (λ i. w.look (key.ById saga i) ≡ l (key.ById saga i)) id key-id in
      bind-same (found (saga_named saga types)) (λ t. on_answer t (saga_there (l (key.ById saga w.saga_id))) b (at_look w l) s) (λ t. on_answer t (saga_there (w.look (key.ById saga w.saga_id))) b w s)
      (λ t so. ap (λ x. on_answer t (saga_there x) b (at_look w l) s) (sym same) ∙ answer-local ms b g fine w l agree t (saga_there (w.look (key.ById saga w.saga_id))) s)

  abbrev pub IsFine : BlockTerm → Type 0
  IsFine b = (g : Sight) × (braces_faults ms b.body g ≡ [])

  pub blocks-local : (block : ℕ) (bs : List BlockTerm) → AllByRecursion IsFine bs → Agree w.look l (met_keys m (known_of w) bs) → (s : State) → blocks_do types m block bs (at_look w l) s ≡ blocks_do types m block bs w s
  blocks-local block [] fine agree s = refl
  blocks-local block (b ∷ bs) fine agree s =
      (elim (is_met m b) as (λ t. is_met m b ≡ t → Agree w.look l (cond t (block_keys m (known_of w) b) [] ++ met_keys m (known_of w) bs) →
      cond t (term_does types block b (at_look w l) s >>= λ u. blocks_do types m (block + 1) bs (at_look w l) u) (blocks_do types m block bs (at_look w l) s)
      ≡ cond t (term_does types block b w s >>= λ u. blocks_do types m (block + 1) bs w u) (blocks_do types m block bs w s)) [
        | true ↦ λ met agree.
            let mine = agree-left w.look l (block_keys m (known_of w) b) _ agree in
            let rest = agree-right w.look l (block_keys m (known_of w) b) _ agree in
            ap (λ x. x >>= λ u. blocks_do types m (block + 1) bs (at_look w l) u)
            (role-local block b.role b.body fine.0.0 fine.0.1 (and-right (bytes_eq m.name b.name) _ met) (agree-left w.look l (role_keys m (known_of w) b.role) _ mine) (agree-right w.look l (role_keys m (known_of w) b.role) _ mine) s)
            ∙ bind-same (term_does types block b w s) (λ u. blocks_do types m (block + 1) bs (at_look w l) u) (λ u. blocks_do types m (block + 1) bs w u) (λ u is. blocks-local (block + 1) bs fine.1 rest u)
        | false ↦ λ met agree. blocks-local block bs fine.1 agree s
      ]) refl agree
