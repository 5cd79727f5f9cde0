-- The verdict over what was read is the verdict over the tables.
use Rattle.std.proofs.Common.{◌≡◌, ℕ, refl, sym, ap, ◌∙◌, subst, List, [], ◌∷◌, ◌++◌, slice_get, Bool, true, false, ◌||◌, Option, Some, None, option_map, option_and_then, unwrap_or, Ok, cond}
use Rattle.std.specs.List.{AllByRecursion}
use Rattle.nb_base.specs.Messages.{Message, header}
use Rattle.nb_base.specs.Shown.{Stored, shown, seen}
use Rattle.nb_base.specs.declared.saga_row.Seen.{Seen}
use Rattle.nb_base.specs.declared.value.Field.{Field as FieldValue}
use Rattle.nb_base.specs.declared.value.Key.{Key}
use Rattle.nb_base.specs.declared.value.Key.TheVariants as key
use Rattle.nb_headers.specs.HeaderNames.{saga_id, saga_type}
use Rattle.nb_headers.specs.Reads.{id_of, type_name, message_type}
use Rattle.nb_script.specs.Grammar.{ItemTerm}
use Rattle.nb_check.specs.Blocks.{BlockTerm, blocks}
use Rattle.nb_check.specs.Checks.{declared_names, body_fields, fields_by, blocks_met, keys_read}
use Rattle.nb_check.specs.Declarations.{messages, sagas}
use Rattle.nb_check.specs.Keys.{met_keys, keys_for, keys_by, fields_for}
use Rattle.nb_check.specs.Meets.{incoming, incoming_as, incoming_of, address_of, address_by, is_empty}
use Rattle.nb_check.specs.Rules.{script_faults, sight}
use Rattle.nb_check.specs.Statements.{braces_faults}
use Rattle.nb_check.specs.declared.incoming.Address.{Address}
use Rattle.nb_check.specs.declared.incoming.Incoming.{Incoming}
use Rattle.nb_check.specs.declared.sight.Sight.{Sight}
use Rattle.nb_check.specs.declared.types.MessageType.{MessageType}
use Rattle.nb_eval.specs.declared.scene.Touched.{Touched}
use Rattle.nb_eval.specs.Values.{Answer, ◌>>=◌}
use Rattle.nb_eval.specs.Worlds.{seen_in}
use Rattle.nb_eval.specs.Blocks.{blocks_do}
use Rattle.nb_eval.specs.Verdicts.{nothing_done, row_write, row_writes, plan_of, world_at, handled, verdict_of, on_body, on_met, on_type, verdict_over}
use Rattle.nb_eval.proofs.Steps.{bind-same}
use Rattle.nb_eval.proofs.SameKeys.{Agree, agree-all, seen-all}
use Rattle.nb_eval.proofs.LocalBlocks.{IsAddressed, blocks-local}
use Rattle.nb_eval.proofs.CheckedBlocks.{IsGoodBlock, role_sight, good-blocks}
use Rattle.nb_eval.proofs.Within.{Touches, blocks-touches}
use Rattle.nb_eval.proofs.Kept.{IfDone}

-- ---- the saga that the headers name

address-id : (a b : List ℕ) (t e : Bool) (d : Address) → cond {A = Option Address} (t || e) None (Some (record { saga = a; id = b })) ≡ Some d → d.id ≡ b
address-id a b true e d h = absurd (cc)
address-id a b false true d h = absurd (cc)
address-id a b false false d h = cc

pub by-id : (t : Option (List ℕ)) (o : Option (List ℕ)) (d : Address) → address_by t o ≡ Some d → d.id ≡ unwrap_or o []
by-id None o d h = absurd (cc)
by-id (Some s) None d h = absurd (cc)
by-id (Some s) (Some i) d h = address-id (type_name s) i (is_empty (type_name s)) (is_empty i) d h

some-is : (i j : Incoming) → Some i ≡ Some j → i ≡ j
some-is i j e = cc

pub incoming-address : (names : List (List ℕ)) (e : Message) (o : Option ℕ) (m : Incoming) → option_and_then (incoming_of e names) o ≡ Some m → m.address ≡ address_of e
incoming-address names e None m h = absurd (cc)
incoming-address names e (Some n) m h = named (slice_get names n) h
  where
    named : (o : Option (List ℕ)) → option_map (incoming_as e n) o ≡ Some m → m.address ≡ address_of e
    named None h = absurd (cc)
    named (Some name) h = sym (ap (λ (i : Incoming). i.address) (some-is _ _ h))

-- ---- good blocks have bodies without faults

pub bodies-fine : (ms : List MessageType) (types : _) (bs : List BlockTerm) → AllByRecursion (IsGoodBlock ms types) bs → AllByRecursion (λ (b : BlockTerm). (g : Sight) × (braces_faults ms b.body g ≡ [])) bs
bodies-fine ms types [] h = tt
bodies-fine ms types (b ∷ bs) h = ((sight (Some h.0.declared) (role_sight types b.role), h.0.body), bodies-fine ms types bs h.1)

rows-same : (look l : Key → Seen) (ts : List Touched) → AllByRecursion (λ (t : Touched). look (key.Row t.name) ≡ l (key.Row t.name)) ts → row_writes l ts ≡ row_writes look ts
rows-same look l [] h = refl
rows-same look l (t ∷ ts) h =
    ap (λ s. row_write t.name t.value s ++ row_writes l ts) (sym h.0) ∙ ap (λ r. row_write t.name t.value (look (key.Row t.name)) ++ r) (rows-same look l ts h.1)

pub done-is : {A : Type 0} (Q : A → Type 0) (x : Answer A) (a : A) → IfDone Q x → x ≡ Ok a → Q a
done-is Q x a q e = subst (λ y. IfDone Q y) e q

module _ (items : List ItemTerm) (rules : script_faults items ≡ []) (e : Message) (at : ℕ) (look l : Key → Seen) where
  fine : AllByRecursion (λ (b : BlockTerm). (g : Sight) × (braces_faults (messages items) b.body g ≡ [])) (blocks items)
  fine = bodies-fine (messages items) (sagas items) (blocks items) (good-blocks items rules)

  handled-local : (m : Incoming) (fields : List FieldValue) → m.address ≡ address_of e → Agree look l (met_keys m (record { id = id_of e; fields = fields }) (blocks items))
      → handled items m (world_at e fields at l) ≡ handled items m (world_at e fields at look)
  handled-local m fields from agree =
      let w = world_at e fields at look in
      let addressed : IsAddressed m w = λ a is. by-id (header e.headers saga_type) (header e.headers saga_id) a (sym from ∙ is) in
      let run = blocks_do (sagas items) m 1 (blocks items) w nothing_done in
      ap (λ x. x >>= λ s. Ok (plan_of l s)) (blocks-local (messages items) (sagas items) m w l addressed 1 (blocks items) fine agree nothing_done)
      ∙ bind-same run (λ s. Ok (plan_of l s)) (λ s. Ok (plan_of look s))
      (λ s is.
      let touched = done-is (Touches (λ k. look k ≡ l k)) run s (blocks-touches (λ k. look k ≡ l k) (messages items) (sagas items) m w 1 (blocks items) fine agree nothing_done tt) is in
      ap (λ r. Ok (record { writes = s.writes ++ r; intents = s.intents })) (rows-same look l s.touched touched))

  body-same : (o : Option MessageType) → fields_by o e.body ≡ fields_for e o
  body-same None = refl
  body-same (Some t) = refl

  body-local : (m : Incoming) (o : Option (List FieldValue)) → m.address ≡ address_of e → Agree look l (keys_for items e m o) → on_body items l e at m o ≡ on_body items look e at m o
  body-local m None from agree = refl
  body-local m (Some fields) from agree =
      ap verdict_of (handled-local m fields from (agree-all look l [] (met_keys m (record { id = id_of e; fields = fields }) (blocks items)) agree))

  met-local : (m : Incoming) (ns : List ℕ) → m.address ≡ address_of e → Agree look l (keys_for items e m (fields_for e (slice_get (messages items) m.message))) → on_met items l e at m ns ≡ on_met items look e at m ns
  met-local m [] from agree = refl
  met-local m (n ∷ ns) from agree =
      body-local m (body_fields items m.message e.body) from (subst (λ o. Agree look l (keys_for items e m o)) (sym (body-same (slice_get (messages items) m.message))) agree)

  type-local : (o : Option Incoming) → incoming (declared_names items) e ≡ o → Agree look l (keys_by items (messages items) e o) → on_type items l e at o ≡ on_type items look e at o
  type-local None is agree = refl
  type-local (Some m) is agree = met-local m (blocks_met items e) (incoming-address (declared_names items) e (message_type e (declared_names items)) m is) agree

  -- the verdict is the same over tables that show the same at the keys
  pub verdict-local : Agree look l (keys_read items e) → verdict_over items l e at ≡ verdict_over items look e at
  verdict-local agree = type-local (incoming (declared_names items) e) refl agree

-- the verdict over what was read at the keys is that over the tables
pub verdict-seen : (items : List ItemTerm) → script_faults items ≡ [] → (t : Stored) (e : Message) (at : ℕ) → verdict_over items (seen_in (seen t (keys_read items e))) e at ≡ verdict_over items (shown t) e at
verdict-seen items rules t e at = verdict-local items rules e at (shown t) (seen_in (seen t (keys_read items e))) (seen-all t (keys_read items e))

-- tables that show the same at the keys have the same verdict
pub verdict-same : (items : List ItemTerm) → script_faults items ≡ [] → (t u : Stored) (e : Message) (at : ℕ) → seen t (keys_read items e) ≡ seen u (keys_read items e) → verdict_over items (shown t) e at ≡ verdict_over items (shown u) e at
verdict-same items rules t u e at same = sym (verdict-seen items rules t e at) ∙ ap (λ rs. verdict_over items (seen_in rs) e at) same ∙ verdict-seen items rules u e at
