-- The blocks of a checked script leave changes and intents that keep sound tables sound.
use Rattle.std.proofs.Common.{◌≡◌, ◌≢◌, ◌≤◌, ◌+◌, ◌^◌, ℕ, refl, sym, ap, ◌∙◌, subst, List, [], ◌∷◌, ◌++◌, nat_lt, true, false, Option, Some, None, Ok, Err, cond, arith}
use Rattle.std.proofs.lemmas.Bool.{ltb-true}
use Rattle.std.specs.List.{AllByRecursion}
use Rattle.std.specs.FinMap as map
use Rattle.std.specs.Str.{bytes_eq}
use Rattle.nb_base.specs.Meanings.{Meaning, IsAmong, IsPutRight}
use Rattle.nb_base.specs.Shown.{Stored, saga_seen, shown, with_id}
use Rattle.nb_base.specs.Sound.{IsSoundStored}
use Rattle.nb_base.specs.declared.saga_key.SagaKey.{SagaKey}
use Rattle.nb_base.specs.declared.saga_row.SagaRow.{SagaRow}
use Rattle.nb_base.specs.declared.value.Key.TheVariants as key
use Rattle.nb_base.specs.declared.value.Value.{Value}
use Rattle.nb_script.specs.declared.item.FieldKind.{FieldKind}
use Rattle.nb_script.specs.declared.item.Finder.{Finder}
use Rattle.nb_script.specs.declared.item.Finder.TheVariants.{Start, Find}
use Rattle.nb_script.specs.Grammar.{Braces}
use Rattle.nb_check.specs.Blocks.{Role, Handles, Finds, Answers, BlockTerm}
use Rattle.nb_check.specs.Fits.{kind_of, fits, fits_if, fits_type, saga_named}
use Rattle.nb_check.specs.Keys.{value_in}
use Rattle.nb_check.specs.Meets.{is_met}
use Rattle.nb_check.specs.Rules.{sight}
use Rattle.nb_check.specs.Statements.{fields_of, braces_faults}
use Rattle.nb_check.specs.declared.incoming.Incoming.{Incoming}
use Rattle.nb_check.specs.declared.sight.SagaSight.{SagaSight}
use Rattle.nb_check.specs.declared.sight.Sight.{Sight}
use Rattle.nb_check.specs.declared.types.Declared.{Declared}
use Rattle.nb_check.specs.declared.types.MessageType.{MessageType}
use Rattle.nb_check.specs.declared.types.SagaType.{SagaType}
use Rattle.nb_eval.specs.declared.scene.Instance.{Instance}
use Rattle.nb_eval.specs.declared.scene.State.{State}
use Rattle.nb_eval.specs.declared.stop.Stop.TheVariants as stop
use Rattle.nb_eval.specs.Values.{Answer, ◌>>=◌, found}
use Rattle.nb_eval.specs.Worlds.{World, saga_there}
use Rattle.nb_eval.specs.Statements.{within}
use Rattle.nb_eval.specs.Blocks.{stored_instance, new_instance, saga_write, ended, enter, in_block, on_absent, on_found, on_answer, block_does, term_does, blocks_do}
use Rattle.nb_eval.specs.Meanings.{FitsLook}
use Rattle.nb_check.specs.Sends.{braces_sends, blocks_sends}
use Rattle.nb_eval.proofs.Steps.{and-left, all-left, all-right}
use Rattle.nb_eval.proofs.SameKeys.{bytes-is}
use Rattle.nb_eval.proofs.Sights.{declared, instance_sight, saga_sight_of, sight_of, Good, kind_if, kind-declared}
use Rattle.nb_eval.proofs.SoundStmts.{within-good}
use Rattle.nb_eval.proofs.Kept.{IfDone, done-bind, done-then, AreOnce, FineIntents, SameSaga, Kept, within-kept}
use Rattle.nb_eval.proofs.CheckedBlocks.{state_declared, type_sight, sight_if, role_sight, IsGoodType, IsGoodRole, IsGoodBlock}
use Rattle.nb_eval.proofs.Instances.{stored-sight, new-sight}
use Rattle.nb_eval.proofs.SagasApart.{role_sagas, met_sagas, AllApart}
use Rattle.nb_eval.proofs.RightPlan.{IsOfType, IsMadeBy, AreRight, ended-right, none-changed, one-less, id-shown}

sight-is : (a b : SagaSight) → Some a ≡ Some b → a ≡ b
sight-is a b e = cc

later-apart : (xs ys : List (List ℕ)) → AllApart (xs ++ ys) → AllApart ys
later-apart [] ys h = h
later-apart (x ∷ xs) ys h = later-apart xs ys h.1

good-at : {A : Type 0} (P : A → Type 0) (x : Answer A) (a : A) → Good P x → x ≡ Ok a → P a
good-at P x a p e = subst (λ y. Good P y) e p

tail-is : (a b : Declared) (xs ys : List Declared) → a ∷ xs ≡ b ∷ ys → xs ≡ ys
tail-is a b xs ys e = cc

-- the kinds of the other fields, from what is in sight
sight-fields : (ts : List (List ℕ)) (j : Instance) (y : SagaType) → instance_sight ts j ≡ type_sight y → declared j.fields ≡ state_declared y.fields
sight-fields ts j y e = tail-is (record { name = j.property; kind = kind_of j.corr }) y.correlation (declared j.fields) (state_declared y.fields) (ap (λ (g : SagaSight). g.fields) e)

head-kind : (a b : Declared) (xs ys : List Declared) → a ∷ xs ≡ b ∷ ys → a.kind ≡ b.kind
head-kind a b xs ys e = ap (λ (d : Declared). d.kind) (heads a b xs ys e)
  where
    heads : (a b : Declared) (xs ys : List Declared) → a ∷ xs ≡ b ∷ ys → a ≡ b
    heads a b xs ys e = cc

sight-corr : (ts : List (List ℕ)) (j : Instance) (y : SagaType) → instance_sight ts j ≡ type_sight y → kind_of j.corr ≡ y.correlation.kind
sight-corr ts j y e = head-kind (record { name = j.property; kind = kind_of j.corr }) y.correlation (declared j.fields) (state_declared y.fields) (ap (λ (g : SagaSight). g.fields) e)

pub name-is : (name : List ℕ) (ts : List SagaType) (y : SagaType) → saga_named name ts ≡ Some y → y.name ≡ name
name-is name [] y e = absurd (cc)
name-is name (u ∷ ts) y e =
    (elim (bytes_eq u.name name) as (λ b. bytes_eq u.name name ≡ b → cond b (Some u) (saga_named name ts) ≡ Some y → y.name ≡ name) [
      | true ↦ λ is e. ap (λ (t : SagaType). t.name) (sym (type-is u y e)) ∙ bytes-is u.name name is
      | false ↦ λ is e. name-is name ts y e
    ]) refl e
  where
    type-is : (a b : SagaType) → Some a ≡ Some b → a ≡ b
    type-is a b e = cc

module _ (meaning : Meaning) (ms : List MessageType) (types : List SagaType) (t : Stored) (sound : IsSoundStored t) (same : (saga : List ℕ) (row : SagaRow) → fits types saga row ≡ true → meaning.fits saga row ≡ true)
    (fit : FitsLook types (shown t)) (w : World) (look : w.look ≡ shown t) where
  pub record Inv (block : ℕ) (sagas : List (List ℕ)) (s : State) : Type 0 where
    pub once : AreOnce s.touched
    pub intents : FineIntents meaning s.intents
    pub writes : AreRight meaning types t same block sagas s.writes

  module _ (b : Braces) (sends : AllByRecursion (λ n. IsAmong n meaning.sends) (braces_sends b)) where
    typed-done : (y : SagaType) (i : Instance) (block : ℕ) (sagas : List (List ℕ)) (s : State) → IsGoodType y → saga_named y.name types ≡ Some y → IsOfType t y block i → instance_sight y.timeouts i ≡ type_sight y
        → braces_faults ms b (sight (Some (declared w.fields)) (Some (type_sight y))) ≡ [] → AllByRecursion (λ n. n ≢ y.name) sagas → Inv block (y.name ∷ sagas) s → IfDone (Inv (block + 1) sagas) (in_block (Some i) b w s)
    typed-done y i block sagas s good named is seen body others inv =
        done-bind (Inv (block + 1) sagas) (within b w (enter (Some i) s)) (λ u. Ok (ended u)) (λ u so.
        let stays : sight_of w y.timeouts u ≡ sight_of w y.timeouts (enter (Some i) s) = good-at (λ u. sight_of w y.timeouts u ≡ sight_of w y.timeouts (enter (Some i) s)) (within b w (enter (Some i) s)) u
        (within-good ms b w y.timeouts (enter (Some i) s) (subst (λ g. braces_faults ms b (sight (Some (declared w.fields)) (Some g)) ≡ []) (sym seen) body)) so in
        let kept : Kept meaning (enter (Some i) s) u = subst (λ x. IfDone (Kept meaning (enter (Some i) s)) x) so (within-kept meaning b w (enter (Some i) s) sends) in
        end u u.saga refl kept (ap (λ (g : Sight). g.saga) stays) kept.saga)
      where
        changed : (u : State) (j : Instance) → record j { fields = i.fields; completed = i.completed } ≡ i → saga_sight_of y.timeouts (Some j) ≡ Some (instance_sight y.timeouts i) → IsOfType t y block j
        changed u j e g =
            let at : instance_sight y.timeouts j ≡ type_sight y = sight-is (instance_sight y.timeouts j) (instance_sight y.timeouts i) g ∙ seen in
            record {
              name = ap (λ (x : Instance). x.saga) e ∙ is.name;
              revision = ap (λ (x : Instance). x.revision) e ∙ is.revision;
              corr = ap (λ (x : Instance). kind_of x.corr) e ∙ is.corr;
              fields = sight-fields y.timeouts j y at;
              place = subst (λ (x : Instance). IsPutRight t (record { saga = x.saga; corr = x.corr }) x.which) (sym e) is.place;
              made = subst (λ (x : Instance). IsMadeBy block x.which) (sym e) is.made;
            }

        end : (u : State) (o : Option Instance) → u.saga ≡ o → Kept meaning (enter (Some i) s) u → saga_sight_of y.timeouts u.saga ≡ Some (instance_sight y.timeouts i) → SameSaga (Some i) u.saga → Inv (block + 1) sagas (ended u)
        end u None e kept g core = absurd (subst (λ o. SameSaga (Some i) o) e core)
        end u (Some j) e kept g core =
            let right = ended-right meaning types t same y block sagas s.writes j good named (changed u j (subst (λ o. SameSaga (Some i) o) e core) (subst (λ o. saga_sight_of y.timeouts o ≡ Some (instance_sight y.timeouts i)) e g)) others inv.writes in
            record {
              once = kept.once inv.once;
              intents = kept.intents inv.intents;
              writes = subst (λ ws. AreRight meaning types t same (block + 1) sagas ws) (ap (λ ws. ws ++ saga_write (Some j)) (sym kept.writes) ∙ ap (λ o. u.writes ++ saga_write o) (sym e)) right;
            }

    -- a handler, and what changes no saga
    plain-done : (block : ℕ) (sagas : List (List ℕ)) (s : State) → Inv block sagas s → IfDone (Inv (block + 1) sagas) (in_block None b w s)
    plain-done block sagas s inv =
        done-bind (Inv (block + 1) sagas) (within b w (enter None s)) (λ u. Ok (ended u)) (λ u so.
        let kept : Kept meaning (enter None s) u = subst (λ x. IfDone (Kept meaning (enter None s)) x) so (within-kept meaning b w (enter None s) sends) in
        end u u.saga refl kept kept.saga)
      where
        end : (u : State) (o : Option Instance) → u.saga ≡ o → Kept meaning (enter None s) u → SameSaga None u.saga → Inv (block + 1) sagas (ended u)
        end u None e kept core = record {
          once = kept.once inv.once;
          intents = kept.intents inv.intents;
          writes = subst (λ ws. AreRight meaning types t same (block + 1) sagas ws) (ap (λ ws. ws ++ []) (sym kept.writes) ∙ ap (λ o. u.writes ++ saga_write o) (sym e)) (none-changed meaning types t same block sagas s.writes inv.writes);
        }
        end u (Some j) e kept core = absurd (subst (λ o. SameSaga None o) e core)

    idle-done : (block : ℕ) (n : List ℕ) (sagas : List (List ℕ)) (s : State) → Inv block (n ∷ sagas) s → Inv (block + 1) sagas s
    idle-done block n sagas s inv = record { once = inv.once; intents = inv.intents; writes = one-less meaning types t same block n sagas s.writes inv.writes }

    module _ (saga : List ℕ) (y : SagaType) (named : saga_named saga types ≡ Some y) (good : IsGoodType y) (body : braces_faults ms b (sight (Some (declared w.fields)) (Some (type_sight y))) ≡ [])
        (block : ℕ) (sagas : List (List ℕ)) (others : AllByRecursion (λ n. n ≢ saga) sagas) where
      y-name : y.name ≡ saga
      y-name = name-is saga types y named

      y-named : saga_named y.name types ≡ Some y
      y-named = ap (λ n. saga_named n types) y-name ∙ named

      fits-type : (row : SagaRow) → fits types saga row ≡ true → fits_type y row ≡ true
      fits-type row h = subst (λ o. fits_if o row ≡ true) named h

      go : (i : Instance) (s : State) → IsOfType t y block i → instance_sight y.timeouts i ≡ type_sight y → Inv block (saga ∷ sagas) s → IfDone (Inv (block + 1) sagas) (in_block (Some i) b w s)
      go i s is seen inv =
          typed-done y i block sagas s good y-named is seen body (subst (λ n. AllByRecursion (λ k. k ≢ n) sagas) (sym y-name) others) (subst (λ n. Inv block (n ∷ sagas) s) (sym y-name) inv)

      stored-done : (p : SagaKey) (row : SagaRow) (s : State) → map.get t.sagas p ≡ Some row → p.saga ≡ saga → fits types saga row ≡ true → Inv block (saga ∷ sagas) s → IfDone (Inv (block + 1) sagas) (in_block (Some (stored_instance y row)) b w s)
      stored-done p row s there is fits_it inv =
          let seen = stored-sight y row good (fits-type row fits_it) in
          let at : p ≡ record { saga = y.name; corr = row.corr } = ap (λ n. record { saga = n; corr = p.corr }) (is ∙ sym y-name) ∙ ap (λ c. record { saga = y.name; corr = c }) (sym (sound.sagas p row there).corr) in
          go (stored_instance y row) s (record {
            name = refl;
            revision = refl;
            corr = sight-corr y.timeouts (stored_instance y row) y seen;
            fields = sight-fields y.timeouts (stored_instance y row) y seen;
            place = (row, subst (λ p. map.get t.sagas p ≡ Some row) at there, refl);
            made = tt;
          }) seen inv

      absent-done : (f : Finder) (v : Value) (s : State) → 1 ≤ block → kind_of v ≡ y.correlation.kind → map.get t.sagas (record { saga = saga; corr = v }) ≡ None → Inv block (saga ∷ sagas) s → IfDone (Inv (block + 1) sagas) (on_absent f y v block b w s)
      absent-done Start v s low is none inv =
          elim (nat_lt block (2 ^ 32)) as (λ x. nat_lt block (2 ^ 32) ≡ x → IfDone (Inv (block + 1) sagas) (cond {A = Answer ℕ} x (Ok block) (Err stop.Wrong) >>= λ n. in_block (Some (new_instance y v n w)) b w s)) [
            | true ↦ λ e.
                let seen = new-sight y v block w good is in
                go (new_instance y v block w) s (record {
                  name = refl;
                  revision = refl;
                  corr = is;
                  fields = sight-fields y.timeouts (new_instance y v block w) y seen;
                  place = (low, ltb-true block (2 ^ 32) e, subst (λ n. map.get t.sagas (record { saga = n; corr = v }) ≡ None) (sym y-name) none);
                  made = refl;
                }) seen inv
            | false ↦ λ e. tt
          ] refl
      absent-done Find v s low is none inv = idle-done block saga sagas s inv

      found-done : (f : Finder) (v : Value) (o : Option SagaRow) (s : State) → 1 ≤ block → kind_of v ≡ y.correlation.kind → map.get t.sagas (record { saga = saga; corr = v }) ≡ o → ((row : SagaRow) → o ≡ Some row → fits types saga row ≡ true)
          → Inv block (saga ∷ sagas) s → IfDone (Inv (block + 1) sagas) (on_found f y v block (saga_there (saga_seen o)) b w s)
      found-done f v None s low is at fits_it inv = absent-done f v s low is at inv
      found-done f v (Some row) s low is at fits_it inv = stored-done (record { saga = saga; corr = v }) row s at refl (fits_it row refl) inv

      answer-done : (id : List ℕ) (o : Option SagaRow) (s : State) → with_id saga id (map.entries t.sagas) ≡ o → Inv block (saga ∷ sagas) s → IfDone (Inv (block + 1) sagas) (on_answer y (saga_there (saga_seen o)) b w s)
      answer-done id None s at inv = idle-done block saga sagas s inv
      answer-done id (Some row) s at inv =
          let p = id-shown t saga id row (ap saga_seen at) in
          stored-done p.0 row s p.1 p.2 (fit.by_id saga id row (ap saga_seen at)) inv

  found-is : {A : Type 0} (o : Option A) (v : A) → found o ≡ Ok v → o ≡ Some v
  found-is None v e = absurd (cc)
  found-is (Some u) v e = cc

  some-kind : (v : Value) (k : FieldKind) → Some (kind_of v) ≡ Some k → kind_of v ≡ k
  some-kind v k e = cc

  in-type : (b : Braces) (saga : List ℕ) (y : SagaType) → saga_named saga types ≡ Some y → braces_faults ms b (sight (Some (declared w.fields)) (sight_if (saga_named saga types))) ≡ [] → braces_faults ms b (sight (Some (declared w.fields)) (Some (type_sight y))) ≡ []
  in-type b saga y named h = subst (λ o. braces_faults ms b (sight (Some (declared w.fields)) (sight_if o)) ≡ []) named h

  some-type : (z y : SagaType) (o : Option SagaType) → o ≡ Some y → found o ≡ Ok z → y ≡ z
  some-type z y None is e = absurd (cc)
  some-type z y (Some u) is e = cc

  role-done : (r : Role) (b : Braces) (block : ℕ) (sagas : List (List ℕ)) (s : State) → AllByRecursion (λ n. IsAmong n meaning.sends) (braces_sends b) → IsGoodRole types (declared w.fields) r
      → braces_faults ms b (sight (Some (declared w.fields)) (role_sight types r)) ≡ [] → AllApart (role_sagas r ++ sagas) → 1 ≤ block → Inv block (role_sagas r ++ sagas) s → IfDone (Inv (block + 1) sagas) (block_does types block r b w s)
  role-done Handles b block sagas s sends good body apart low inv = plain-done b sends block sagas s inv
  role-done (Finds f saga field) b block sagas s sends good body apart low inv =
      let y = good.0 in
      done-bind (Inv (block + 1) sagas) (found (value_in field w.fields)) (λ v. found (saga_named saga types) >>= λ z. on_found f z v block (saga_there (w.look (key.ByCorr saga v))) b w s) (λ v is.
      done-bind (Inv (block + 1) sagas) (found (saga_named saga types)) (λ z. on_found f z v block (saga_there (w.look (key.ByCorr saga v))) b w s) (λ z so.
      let kind : kind_of v ≡ y.correlation.kind = some-kind v y.correlation.kind (ap kind_if (sym (found-is (value_in field w.fields) v is)) ∙ sym (kind-declared field w.fields) ∙ good.3) in
      let place : SagaKey = record { saga = saga; corr = v } in
      subst (λ z. IfDone (Inv (block + 1) sagas) (on_found f z v block (saga_there (w.look (key.ByCorr saga v))) b w s)) (some-type z y (saga_named saga types) good.1 so)
      (subst (λ l. IfDone (Inv (block + 1) sagas) (on_found f y v block (saga_there (l (key.ByCorr saga v))) b w s)) (sym look)
      (found-done b sends saga y good.1 good.2 (in-type b saga y good.1 body) block sagas apart.0 f v (map.get t.sagas place) s low kind refl
      (λ row e. fit.by_corr saga v row (ap saga_seen e)) inv))))
  role-done (Answers a saga) b block sagas s sends good body apart low inv =
      let y = good.0 in
      done-bind (Inv (block + 1) sagas) (found (saga_named saga types)) (λ z. on_answer z (saga_there (w.look (key.ById saga w.saga_id))) b w s) (λ z so.
      subst (λ z. IfDone (Inv (block + 1) sagas) (on_answer z (saga_there (w.look (key.ById saga w.saga_id))) b w s)) (some-type z y (saga_named saga types) good.1 so)
      (subst (λ l. IfDone (Inv (block + 1) sagas) (on_answer y (saga_there (l (key.ById saga w.saga_id))) b w s)) (sym look)
      (answer-done b sends saga y good.1 good.2 (in-type b saga y good.1 body) block sagas apart.0 w.saga_id (with_id saga w.saga_id (map.entries t.sagas)) s refl inv)))

  some-fields : (a b : List Declared) → Some a ≡ Some b → a ≡ b
  some-fields a b e = cc

  module _ (m : Incoming) (known : fields_of m.name ms ≡ Some (declared w.fields)) where
    term-done : (b : BlockTerm) (block : ℕ) (sagas : List (List ℕ)) (s : State) → IsGoodBlock ms types b → is_met m b ≡ true → AllByRecursion (λ n. IsAmong n meaning.sends) (braces_sends b.body) → AllApart (role_sagas b.role ++ sagas) → 1 ≤ block
        → Inv block (role_sagas b.role ++ sagas) s → IfDone (Inv (block + 1) sagas) (term_does types block b w s)
    term-done b block sagas s good met sends apart low inv =
        let name : m.name ≡ b.name = bytes-is m.name b.name (and-left (bytes_eq m.name b.name) _ met) in
        let same_fields : good.declared ≡ declared w.fields = some-fields good.declared (declared w.fields) (sym good.known ∙ ap (λ n. fields_of n ms) (sym name) ∙ known) in
        role-done b.role b.body block sagas s sends (subst (λ ds. IsGoodRole types ds b.role) same_fields good.role) (subst (λ ds. braces_faults ms b.body (sight (Some ds) (role_sight types b.role)) ≡ []) same_fields good.body) apart low inv

    abbrev pub Ended : State → Type 0
    Ended u = (n : ℕ) × Inv n [] u

    pub blocks-done : (block : ℕ) (bs : List BlockTerm) (s : State) → AllByRecursion (IsGoodBlock ms types) bs → AllByRecursion (λ n. IsAmong n meaning.sends) (blocks_sends bs) → AllApart (met_sagas m bs) → 1 ≤ block → Inv block (met_sagas m bs) s
        → IfDone Ended (blocks_do types m block bs w s)
    blocks-done block [] s good sends apart low inv = (block, inv)
    blocks-done block (b ∷ bs) s good sends apart low inv =
        let rest = all-right (λ n. IsAmong n meaning.sends) (braces_sends b.body) (blocks_sends bs) sends in
        (elim (is_met m b) as (λ y. is_met m b ≡ y → AllApart (cond y (role_sagas b.role) [] ++ met_sagas m bs) → Inv block (cond y (role_sagas b.role) [] ++ met_sagas m bs) s
        → IfDone Ended (cond y (term_does types block b w s >>= λ u. blocks_do types m (block + 1) bs w u) (blocks_do types m block bs w s))) [
          | true ↦ λ met apart inv.
              done-then (Inv (block + 1) (met_sagas m bs)) Ended (term_does types block b w s) (λ u. blocks_do types m (block + 1) bs w u)
              (term-done b block (met_sagas m bs) s good.0 met (all-left (λ n. IsAmong n meaning.sends) (braces_sends b.body) (blocks_sends bs) sends) apart low inv)
              (λ u more. blocks-done (block + 1) bs u good.1 rest (later-apart (role_sagas b.role) (met_sagas m bs) apart) (omega arith) more)
          | false ↦ λ met apart inv. blocks-done block bs s good.1 rest apart low inv
        ]) refl apart inv
