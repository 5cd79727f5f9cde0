-- Checked statements never meet a value of a wrong kind, and what is in sight keeps its kinds.
use Rattle.std.proofs.Common.{◌≡◌, ℕ, ℤ, pos, ◌+ℤ◌, ◌+◌, refl, sym, ap, ◌∙◌, subst, List, [], ◌∷◌, ◌++◌, length, take, nat_lt, nat_le, Bool, true, false, not, Option, Some, None, Ok, Err, cond, true≢false}
use Rattle.std.specs.Prelude.{negsuc}
use Rattle.std.specs.Str.{bytes_eq}
use Rattle.nb_base.specs.declared.plan.Intent.{Intent}
use Rattle.nb_base.specs.declared.plan.Target.{Target}
use Rattle.nb_base.specs.declared.plan.Target.TheVariants as target
use Rattle.nb_base.specs.declared.value.Field.{Field}
use Rattle.nb_base.specs.declared.value.Value.{Value}
use Rattle.nb_script.specs.declared.item.FieldKind.{FieldKind}
use Rattle.nb_script.specs.declared.item.FieldKind.TheVariants as kind
use Rattle.nb_script.specs.Grammar.{Term, ArgTerm, MakeTerm, RowTerm, AfterTerm}
use Rattle.nb_script.specs.Grammar.{Phrase, Let, Set, Put, Add, Erase, Send, Publish, Reply, Timeout, Complete, Refuse, If, Phrases, Nil, Then, Braces, Brace, Otherwise, Nothing, Last, Chain}
use Rattle.nb_check.specs.Breaches.{unless_true, twice}
use Rattle.nb_check.specs.Declarations.{type_text}
use Rattle.nb_check.specs.Fits.{kind_of}
use Rattle.nb_check.specs.Keys.{value_in}
use Rattle.nb_check.specs.Kinds as kinds
use Rattle.nb_check.specs.Kinds.{kind_in, wants, unless_kind, judgement, name_faults, faults}
use Rattle.nb_check.specs.Statements.{fields_of, takes, takes_in, args_faults, missing_faults, make_faults, placed_args, value_faults, row_faults, delay_faults, needs_saga, originator_faults, set_faults, timeout_faults, after_let, after, all_after, phrase_faults, phrases_faults, braces_faults, otherwise_faults}
use Rattle.nb_check.specs.declared.breach.CheckKind.TheVariants.{FieldTwice, SetsCorrelation}
use Rattle.nb_check.specs.declared.sight.Judgement.{Judgement}
use Rattle.nb_check.specs.declared.sight.Local.{Local}
use Rattle.nb_check.specs.declared.sight.Sight.{Sight}
use Rattle.nb_check.specs.declared.types.Declared.{Declared}
use Rattle.nb_check.specs.declared.types.MessageType.{MessageType}
use Rattle.nb_eval.specs.declared.scene.Instance.{Instance}
use Rattle.nb_eval.specs.declared.scene.State.{State}
use Rattle.nb_eval.specs.declared.stop.Stop.TheVariants as stop
use Rattle.nb_eval.specs.declared.stop.Limit.TheVariants.{Overflow, TooMany, TooLarge, BadDelay}
use Rattle.nb_eval.specs.Values as values
use Rattle.nb_eval.specs.Values.{Answer, ◌>>=◌, found, fits, in_range, whole}
use Rattle.nb_eval.specs.Worlds.{World, named, all_fields, put_row}
use Rattle.nb_eval.specs.Expressions.{row_name, number_or_zero, value_of, whole_of, text_of, truth_of, row_at}
use Rattle.nb_eval.specs.Making.{made, delay_in, seconds_of, timed, delay_of, address, answered, intent, with_intent, sent, target_of}
use Rattle.nb_eval.specs.Statements.{behind, with_field, with_fields, set_to, with_name, leave, left, chosen, run, in_turn, within, otherwise}
use Rattle.nb_eval.proofs.Steps.{left-nil, right-nil, is-true}
use Rattle.nb_eval.proofs.SameKeys.{bytes-is}
use Rattle.nb_eval.proofs.Sights.{declared, locals, instance_sight, saga_sight_of, sight_of, Good, HasKind, Fine, good-bind, kind-is, kind_if, kind-declared, wanted, value-int, value-text, value-truth}
use Rattle.nb_eval.proofs.Sound.{sound, named-fine, name-text}

-- ---- values of a kind

kind-wanted : (k : FieldKind) (e : Term) (w : World) (ts : List (List ℕ)) (s : State) → value_faults k e (sight_of w ts s) ≡ [] → Good (λ v. kinds.is_kind (kind_of v) k ≡ true) (value_of e w s)
kind-wanted k e w ts s h = weaker (value_of e w s) (sound e w ts s (left-nil (faults e (sight_of w ts s)) _ h))
  where
    weaker : (x : Answer Value) → HasKind (kinds.kind e (sight_of w ts s)) x → Good (λ v. kinds.is_kind (kind_of v) k ≡ true) x
    weaker (Ok v) p = wanted k (kinds.kind e (sight_of w ts s)) (kinds.first_place e) v (right-nil (faults e (sight_of w ts s)) _ h) p
    weaker (Err e) p = p

whole-fine : (v : Value) → kinds.is_kind (kind_of v) kind.Int ≡ true → Fine (whole v)
whole-fine v h = let n = value-int v h in subst (λ v. Fine (whole v)) (sym n.1) tt

text-fine : (v : Value) → kinds.is_kind (kind_of v) kind.Text ≡ true → Fine (values.text v)
text-fine v h = let n = value-text v h in subst (λ v. Fine (values.text v)) (sym n.1) tt

truth-fine : (v : Value) → kinds.is_kind (kind_of v) kind.Bool ≡ true → Fine (values.truth v)
truth-fine v h = let n = value-truth v h in subst (λ v. Fine (values.truth v)) (sym n.1) tt

whole-good : (e : Term) (w : World) (ts : List (List ℕ)) (s : State) → value_faults kind.Int e (sight_of w ts s) ≡ [] → Fine (whole_of e w s)
whole-good e w ts s h = good-bind (λ v. kinds.is_kind (kind_of v) kind.Int ≡ true) (λ n. Unit {0}) (value_of e w s) whole (kind-wanted kind.Int e w ts s h) whole-fine

text-good : (e : Term) (w : World) (ts : List (List ℕ)) (s : State) → value_faults kind.Text e (sight_of w ts s) ≡ [] → Fine (text_of e w s)
text-good e w ts s h = good-bind (λ v. kinds.is_kind (kind_of v) kind.Text ≡ true) (λ n. Unit {0}) (value_of e w s) values.text (kind-wanted kind.Text e w ts s h) text-fine

truth-good : (e : Term) (w : World) (ts : List (List ℕ)) (s : State) → value_faults kind.Bool e (sight_of w ts s) ≡ [] → Fine (truth_of e w s)
truth-good e w ts s h = good-bind (λ v. kinds.is_kind (kind_of v) kind.Bool ≡ true) (λ n. Unit {0}) (value_of e w s) values.truth (kind-wanted kind.Bool e w ts s h) truth-fine

row-good : (r : RowTerm) (w : World) (ts : List (List ℕ)) (s : State) → row_faults r (sight_of w ts s) ≡ [] → Fine (row_at r w s)
row-good r w ts s h =
    let g = sight_of w ts s in
    let fine : faults r.name g ≡ [] = left-nil (faults r.name g) _ h in
    good-bind (λ v. kinds.kind r.name g ≡ Some (kind_of v)) (λ name. Unit {0}) (value_of r.name w s) row_name (sound r.name w ts s fine)
    (λ v k. named-fine v (sym (name-text r.name w ts s fine (right-nil (faults r.name g) _ h)) ∙ k))

in_range-fine : (n : ℤ) → Fine (in_range n)
in_range-fine n = elim (fits n) as (λ b. Fine (cond {A = Answer ℤ} b (Ok n) (Err (stop.Passed Overflow)))) [ true ↦ tt | false ↦ tt ]

delay-fine : (n : ℤ) → Fine (delay_in n)
delay-fine (pos n) = elim (nat_lt 31536000 n) as (λ b. Fine (cond {A = Answer ℕ} b (Err (stop.Passed BadDelay)) (Ok n))) [ true ↦ tt | false ↦ tt ]
delay-fine (negsuc n) = tt

seconds-good : (e : Term) (w : World) (ts : List (List ℕ)) (s : State) → value_faults kind.Int e (sight_of w ts s) ≡ [] → Fine (seconds_of e w s)
seconds-good e w ts s h = good-bind (λ n. Unit {0}) (λ n. Unit {0}) (whole_of e w s) delay_in (whole-good e w ts s h) (λ n u. delay-fine n)

delay-good : (a : Option AfterTerm) (w : World) (ts : List (List ℕ)) (s : State) → delay_faults a (sight_of w ts s) ≡ [] → Fine (delay_of a w s)
delay-good None w ts s h = tt
delay-good (Some a) w ts s h = good-bind (λ n. Unit {0}) (λ n. Unit {0}) (seconds_of a.delay w s) (λ d. Ok (Some d)) (seconds-good a.delay w ts s h) (λ n u. tt)

-- ---- messages that are made

args-good : (ds : Option (List Declared)) (args : List ArgTerm) (w : World) (ts : List (List ℕ)) (s : State) → args_faults ds args (sight_of w ts s) ≡ [] → Fine (made args w s)
args-good ds [] w ts s h = tt
args-good ds (a ∷ more) w ts s h =
    let g = sight_of w ts s in
    let one : faults a.value g ++ takes_in ds a.name a.at (judgement a.value g) ≡ [] = left-nil (faults a.value g ++ takes_in ds a.name a.at (judgement a.value g)) _ h in
    good-bind (λ v. kinds.kind a.value g ≡ Some (kind_of v)) (λ fs. Unit {0}) (value_of a.value w s) (λ v. made more w s >>= λ fs. Ok (named a.name v ∷ fs)) (sound a.value w ts s (left-nil (faults a.value g) _ one))
    (λ v k. good-bind (λ fs. Unit {0}) (λ fs. Unit {0}) (made more w s) (λ fs. Ok (named a.name v ∷ fs))
    (args-good ds more w ts s (right-nil (faults a.value g ++ takes_in ds a.name a.at (judgement a.value g)) _ h)) (λ fs u. tt))

make-good : (ms : List MessageType) (m : MakeTerm) (w : World) (ts : List (List ℕ)) (s : State) → make_faults ms m (sight_of w ts s) ≡ [] → Fine (made m.args w s)
make-good ms m w ts s h =
    let ds = fields_of (type_text m.name) ms in
    args-good ds m.args w ts s (right-nil (twice FieldTwice (placed_args m.args)) _ (right-nil (missing_faults ds m) _ h))

-- what is in sight stays
abbrev pub Stays : World → List (List ℕ) → State → Answer State → Type 0
Stays w ts s = Good (λ t. sight_of w ts t ≡ sight_of w ts s)

intent-stays : (x : Intent) (w : World) (ts : List (List ℕ)) (s : State) → Stays w ts s (with_intent x s)
intent-stays x w ts s =
    elim (nat_le 256 (length s.intents)) as (λ b. Stays w ts s (cond {A = Answer State} b (Err (stop.Passed TooMany))
    (cond {A = Answer State} (nat_lt 1048576 (s.size + length x.body)) (Err (stop.Passed TooLarge)) (Ok (record s { intents = s.intents ++ x ∷ []; size = s.size + length x.body }))))) [
      | true ↦ tt
      | false ↦
          elim (nat_lt 1048576 (s.size + length x.body)) as (λ b. Stays w ts s (cond {A = Answer State} b (Err (stop.Passed TooLarge)) (Ok (record s { intents = s.intents ++ x ∷ []; size = s.size + length x.body })))) [
            | true ↦ tt
            | false ↦ refl
          ]
    ]

sent-stays : (ms : List MessageType) (t : Target) (d : Option ℕ) (m : MakeTerm) (w : World) (ts : List (List ℕ)) (s : State) → make_faults ms m (sight_of w ts s) ≡ [] → Stays w ts s (sent t d m w s)
sent-stays ms t d m w ts s h =
    good-bind (λ fs. Unit {0}) (λ u. sight_of w ts u ≡ sight_of w ts s) (made m.args w s) (λ fields. with_intent (intent t d m fields s) s) (make-good ms m w ts s h)
    (λ fields u. intent-stays (intent t d m fields s) w ts s)

address-fine : (t : List ℕ) → Fine (address t)
address-fine [] = tt
address-fine (c ∷ cs) = tt

saga-there : (at : ℕ) (o : Option Instance) (ts : List (List ℕ)) → needs_saga at (saga_sight_of ts o) ≡ [] → Fine (found o)
saga-there at None ts h = absurd (cc)
saga-there at (Some i) ts h = tt

timed-good : (at : ℕ) (e : Term) (w : World) (ts : List (List ℕ)) (s : State) → needs_saga at (saga_sight_of ts s.saga) ≡ [] → value_faults kind.Int e (sight_of w ts s) ≡ [] → Fine (timed e w s)
timed-good at e w ts s h k = good-bind (λ i. Unit {0}) (λ d. Unit {0}) (found s.saga) (λ i. seconds_of e w s) (saga-there at s.saga ts h) (λ i u. seconds-good e w ts s k)

originator-fine : (w : World) (i : Instance) → Fine (address i.originator >>= λ t. Ok (target.Originator t i.original))
originator-fine w i = good-bind (λ t. Unit {0}) (λ t. Unit {0}) (address i.originator) (λ t. Ok (target.Originator t i.original)) (address-fine i.originator) (λ t u. tt)

answered-good : (at : ℕ) (o : Option ℕ) (w : World) (ts : List (List ℕ)) (s : State) → originator_faults at o (saga_sight_of ts s.saga) ≡ [] → Fine (answered o w s)
answered-good at None w ts s h = good-bind (λ t. Unit {0}) (λ t. Unit {0}) (address w.reply_to) (λ t. Ok (target.Reply t)) (address-fine w.reply_to) (λ t u. tt)
answered-good at (Some q) w ts s h = good-bind (λ i. Unit {0}) (λ t. Unit {0}) (found s.saga) (λ i. address i.originator >>= λ t. Ok (target.Originator t i.original)) (saga-there at s.saga ts h) (λ i u. originator-fine w i)

-- ---- the saga

abbrev SetsTo : List Declared → Option (List Field) → Type 0
SetsTo ds None = ⊥
SetsTo ds (Some fs) = declared fs ≡ ds

abbrev with_kind : List ℕ → FieldKind → List Declared → List Declared
with_kind n k ds = record { name = n; kind = k } ∷ ds

sets-behind : (f : Field) (ds : List Declared) (o : Option (List Field)) → SetsTo ds o → SetsTo (with_kind f.name (kind_of f.value) ds) (behind (f ∷ []) o)
sets-behind f ds None h = h
sets-behind f ds (Some fs) h = ap (with_kind f.name (kind_of f.value)) h

some-is : (j k : FieldKind) → Some j ≡ Some k → j ≡ k
some-is j k e = cc

sets-to : (name : List ℕ) (v : Value) (fs : List Field) → kind_if (value_in name fs) ≡ Some (kind_of v) → SetsTo (declared fs) (with_field name v fs)
sets-to name v [] h = absurd (cc)
sets-to name v (f ∷ fs) h =
    elim (bytes_eq f.name name) as (λ b. bytes_eq f.name name ≡ b → kind_if (cond b (Some f.value) (value_in name fs)) ≡ Some (kind_of v) →
    SetsTo (declared (f ∷ fs)) (cond b (Some (named name v ∷ fs)) (behind (f ∷ []) (with_field name v fs)))) [
      | true ↦ λ is k. ap (λ n. with_kind n (kind_of v) (declared fs)) (sym (bytes-is f.name name is)) ∙ ap (λ k. with_kind f.name k (declared fs)) (some-is _ _ (sym k))
      | false ↦ λ is k. sets-behind f (declared fs) (with_field name v fs) (sets-to name v fs k)
    ] refl h

-- a field that isn't the correlation property is looked for among the others
others : (name property : List ℕ) (k : FieldKind) (ds : List Declared) → not (bytes_eq property name) ≡ true → kind_in name (with_kind property k ds) ≡ kind_in name ds
others name property k ds h =
    (elim (bytes_eq property name) as (λ b. not b ≡ true → cond b (Some k) (kind_in name ds) ≡ kind_in name ds) [
      | true ↦ λ h. absurd (true≢false (sym h))
      | false ↦ λ h. refl
    ]) h

taken-kind : (o : Option FieldKind) (q : ℕ) (j : Judgement) (v : Value) → takes o q j ≡ [] → j.kind ≡ Some (kind_of v) → o ≡ Some (kind_of v)
taken-kind None q j v h k = absurd (cc)
taken-kind (Some o) q j v h k = ap Some (sym (kind-is (kind_of v) o (wanted o j.kind j.at v h k)))

set-sets : (at q : ℕ) (f : List ℕ) (v : Value) (j : Judgement) (ts : List (List ℕ)) (i : Instance) → set_faults at q f j (Some (instance_sight ts i)) ≡ [] → j.kind ≡ Some (kind_of v) → SetsTo (declared i.fields) (with_field f v i.fields)
set-sets at q f v j ts i h k =
    let other = is-true (not (bytes_eq i.property f)) q SetsCorrelation (left-nil (unless_true (not (bytes_eq i.property f)) q SetsCorrelation) _ h) in
    let takes-it = right-nil (unless_true (not (bytes_eq i.property f)) q SetsCorrelation) _ h in
    let all : kind_in f (declared (all_fields i)) ≡ Some (kind_of v) = taken-kind (kind_in f (declared (all_fields i))) q j v takes-it k in
    sets-to f v i.fields (sym (kind-declared f i.fields) ∙ sym (others f i.property (kind_of i.corr) (declared i.fields) other) ∙ all)

abbrev with_saga_sight : World → List (List ℕ) → State → Instance → List Declared → Sight
with_saga_sight w ts s i ds = record (sight_of w ts s) { saga = Some (record { correlation = i.property; fields = with_kind i.property (kind_of i.corr) ds; timeouts = ts }) }

set-good : (at q : ℕ) (f : List ℕ) (v : Value) (j : Judgement) (w : World) (ts : List (List ℕ)) (s : State) (o : Option Instance) → s.saga ≡ o → set_faults at q f j (saga_sight_of ts o) ≡ [] → j.kind ≡ Some (kind_of v)
    → Stays w ts s (found o >>= λ i. found (with_field f v i.fields) >>= λ fields. Ok (with_fields s i fields))
set-good at q f v j w ts s None is h k = absurd (cc)
set-good at q f v j w ts s (Some i) is h k = set (with_field f v i.fields) (set-sets at q f v j ts i h k)
  where
    set : (p : Option (List Field)) → SetsTo (declared i.fields) p → Stays w ts s (found p >>= λ fields. Ok (with_fields s i fields))
    set None h = absurd h
    set (Some fields) h = ap (with_saga_sight w ts s i) h ∙ ap (λ o. record (sight_of w ts s) { saga = saga_sight_of ts o }) (sym is)

complete-good : (at : ℕ) (w : World) (ts : List (List ℕ)) (s : State) (o : Option Instance) → s.saga ≡ o → needs_saga at (saga_sight_of ts o) ≡ [] → Stays w ts s (found o >>= λ i. Ok (record s { saga = Some (record i { completed = true }) }))
complete-good at w ts s None is h = absurd (cc)
complete-good at w ts s (Some i) is h = ap (λ o. record (sight_of w ts s) { saga = saga_sight_of ts o }) (sym is)

-- ---- names

locals-append : (xs ys : List Field) → locals (xs ++ ys) ≡ locals xs ++ locals ys
locals-append [] ys = refl
locals-append (x ∷ xs) ys = ap (λ ls. record { name = x.name; kind = Some (kind_of x.value) } ∷ ls) (locals-append xs ys)

-- of a list whose kinds are those of xs and more, the first ones have those of xs
locals-front : (xs ts : List Field) (more : List Local) → locals ts ≡ locals xs ++ more → locals (take (length xs) ts) ≡ locals xs
locals-front [] [] more e = refl
locals-front [] (t ∷ ts) more e = refl
locals-front (x ∷ xs) [] more e = absurd (cc)
locals-front (x ∷ xs) (t ∷ ts) more e =
    let first : locals (t ∷ []) ≡ locals (x ∷ []) = cc in
    let rest : locals ts ≡ locals xs ++ more = cc in
    ap (λ ls. record { name = t.name; kind = Some (kind_of t.value) } ∷ ls) (locals-front xs ts more rest) ∙ ap (λ ls. ls ++ locals xs) first

append-nil : {X : Type 0} (xs : List X) → xs ≡ xs ++ []
append-nil [] = refl
append-nil (x ∷ xs) = ap (λ ys. x ∷ ys) (append-nil xs)

append-more : {X : Type 0} (xs ys zs : List X) → (xs ++ ys) ++ zs ≡ xs ++ (ys ++ zs)
append-more [] ys zs = refl
append-more (x ∷ xs) ys zs = ap (λ r. x ∷ r) (append-more xs ys zs)

abbrev more_names : List Local → Sight → Sight
more_names more g = record g { names = g.names ++ more }

abbrev with_names : List Local → Sight → Sight
with_names ns g = record g { names = ns }

same-names : (g : Sight) → (more : List Local) × (g ≡ record g { names = g.names ++ more })
same-names g = ([], ap (λ ns. record g { names = ns }) (append-nil g.names))

extends : (d : Phrase) (g : Sight) → (more : List Local) × (after d g ≡ record g { names = g.names ++ more })
extends (Let at q n u x c) g = (record { name = n; kind = kinds.kind x g } ∷ [], refl)
extends (Set at q n u x c) g = same-names g
extends (Put at r u x c) g = same-names g
extends (Add at r u x c) g = same-names g
extends (Erase at r c) g = same-names g
extends (Send a at to m c) g = same-names g
extends (Publish at m c) g = same-names g
extends (Reply at o m c) g = same-names g
extends (Timeout at x m c) g = same-names g
extends (Complete at c) g = same-names g
extends (Refuse at r q n x c) g = same-names g
extends (If at x b o) g = same-names g

-- statements bring only more names into sight
all-extend : (ds : Phrases) (g : Sight) → (more : List Local) × (all_after ds g ≡ record g { names = g.names ++ more })
all-extend Nil g = same-names g
all-extend (Then d ds) g =
    let one = extends d g in
    let rest = all-extend ds (after d g) in
    (one.0 ++ rest.0, rest.1 ∙ ap (more_names rest.0) one.1 ∙ ap (λ ns. record g { names = ns }) (append-more g.names one.0 rest.0))

let-good : (x : List ℕ) (e : Term) (v : Value) (w : World) (ts : List (List ℕ)) (s : State) → kinds.kind e (sight_of w ts s) ≡ Some (kind_of v) → sight_of w ts (with_name x v s) ≡ after_let x e (sight_of w ts s)
let-good x e v w ts s k =
    ap (λ ns. record (sight_of w ts s) { names = ns }) (locals-append s.names (named x v ∷ []))
    ∙ ap (λ k. record (sight_of w ts s) { names = locals s.names ++ record { name = x; kind = k } ∷ [] }) (sym k)

left-good : (w : World) (ts : List (List ℕ)) (s t : State) (more : List Local) → sight_of w ts t ≡ record (sight_of w ts s) { names = locals s.names ++ more } → sight_of w ts (leave s.names t) ≡ sight_of w ts s
left-good w ts s t more e =
    let names : locals (take (length s.names) t.names) ≡ locals s.names = locals-front s.names t.names more (ap (λ (g : Sight). g.names) e) in
    ap (λ ns. record (sight_of w ts t) { names = ns }) names ∙ ap (with_names (locals s.names)) e

block-good : (ds : Phrases) (w : World) (ts : List (List ℕ)) (s : State) → Good (λ t. sight_of w ts t ≡ all_after ds (sight_of w ts s)) (in_turn ds w s) → Stays w ts s (left s (in_turn ds w s))
block-good ds w ts s good =
    let ext = all-extend ds (sight_of w ts s) in
    good-bind (λ t. sight_of w ts t ≡ all_after ds (sight_of w ts s)) (λ t. sight_of w ts t ≡ sight_of w ts s) (in_turn ds w s) (λ t. Ok (leave s.names t)) good (λ t e. left-good w ts s t ext.0 (e ∙ ext.1))

-- ---- statements

put-good : (r : RowTerm) (e : Term) (w : World) (ts : List (List ℕ)) (s : State) (f : List ℕ → ℤ → Answer State) → row_faults r (sight_of w ts s) ++ value_faults kind.Int e (sight_of w ts s) ≡ []
    → ((name : List ℕ) (n : ℤ) → Stays w ts s (f name n)) → Stays w ts s (row_at r w s >>= λ name. whole_of e w s >>= λ n. f name n)
put-good r e w ts s f h put =
    let g = sight_of w ts s in
    good-bind (λ name. Unit {0}) (λ t. sight_of w ts t ≡ sight_of w ts s) (row_at r w s) (λ name. whole_of e w s >>= λ n. f name n) (row-good r w ts s (left-nil (row_faults r g) _ h))
    (λ name u. good-bind (λ n. Unit {0}) (λ t. sight_of w ts t ≡ sight_of w ts s) (whole_of e w s) (λ n. f name n) (whole-good e w ts s (right-nil (row_faults r g) _ h)) (λ n v. put name n))

chosen-good : (Q : State → Type 0) (yes : Bool) (a b : Answer State) → Good Q a → Good Q b → Good Q (chosen yes a b)
chosen-good Q true a b p q = p
chosen-good Q false a b p q = q

mutual
  pub run-good : (ms : List MessageType) (d : Phrase) (w : World) (ts : List (List ℕ)) (s : State) → phrase_faults ms d (sight_of w ts s) ≡ [] → Good (λ t. sight_of w ts t ≡ after d (sight_of w ts s)) (run d w s)
  run-good ms (Let at q x u e c) w ts s h =
      good-bind (λ v. kinds.kind e (sight_of w ts s) ≡ Some (kind_of v)) (λ t. sight_of w ts t ≡ after_let x e (sight_of w ts s)) (value_of e w s) (λ v. Ok (with_name x v s)) (sound e w ts s (left-nil (faults e (sight_of w ts s)) _ h))
      (λ v k. let-good x e v w ts s k)
  run-good ms (Set at q f u e c) w ts s h =
      good-bind (λ v. kinds.kind e (sight_of w ts s) ≡ Some (kind_of v)) (λ t. sight_of w ts t ≡ sight_of w ts s) (value_of e w s) (λ v. set_to f v s) (sound e w ts s (left-nil (faults e (sight_of w ts s)) _ h))
      (λ v k. set-good at q f v (judgement e (sight_of w ts s)) w ts s s.saga refl (right-nil (faults e (sight_of w ts s)) _ h) k)
  run-good ms (Put at r u e c) w ts s h = put-good r e w ts s (λ name n. Ok (put_row name (Some n) s)) h (λ name n. refl)
  run-good ms (Add at r u e c) w ts s h =
      put-good r e w ts s (λ name n. in_range (number_or_zero name w s +ℤ n) >>= λ m. Ok (put_row name (Some m) s)) h
      (λ name n. good-bind (λ m. Unit {0}) (λ t. sight_of w ts t ≡ sight_of w ts s) (in_range (number_or_zero name w s +ℤ n)) (λ m. Ok (put_row name (Some m) s)) (in_range-fine (number_or_zero name w s +ℤ n)) (λ m u. refl))
  run-good ms (Erase at r c) w ts s h = good-bind (λ name. Unit {0}) (λ t. sight_of w ts t ≡ sight_of w ts s) (row_at r w s) (λ name. Ok (put_row name None s)) (row-good r w ts s h) (λ name u. refl)
  run-good ms (Send a at to m c) w ts s h =
      let g = sight_of w ts s in
      good-bind (λ d. Unit {0}) (λ t. sight_of w ts t ≡ sight_of w ts s) (delay_of a w s) (λ d. sent (target_of to) d m w s) (delay-good a w ts s (left-nil (delay_faults a g) _ h))
      (λ d u. sent-stays ms (target_of to) d m w ts s (right-nil (delay_faults a g) _ h))
  run-good ms (Publish at m c) w ts s h = sent-stays ms target.Publish None m w ts s h
  run-good ms (Reply at o m c) w ts s h =
      let g = sight_of w ts s in
      good-bind (λ t. Unit {0}) (λ t. sight_of w ts t ≡ sight_of w ts s) (answered o w s) (λ t. sent t None m w s) (answered-good at o w ts s (left-nil (originator_faults at o g.saga) _ h))
      (λ t u. sent-stays ms t None m w ts s (right-nil (originator_faults at o g.saga) _ h))
  run-good ms (Timeout at e m c) w ts s h =
      let g = sight_of w ts s in
      let rest = right-nil (needs_saga at g.saga) _ h in
      good-bind (λ d. Unit {0}) (λ t. sight_of w ts t ≡ sight_of w ts s) (timed e w s) (λ d. sent target.Timeout (Some d) m w s)
      (timed-good at e w ts s (left-nil (needs_saga at g.saga) _ h) (left-nil (value_faults kind.Int e g) _ rest))
      (λ d v. sent-stays ms target.Timeout (Some d) m w ts s (right-nil (timeout_faults m.name g.saga) _ (right-nil (value_faults kind.Int e g) _ rest)))
  run-good ms (Complete at c) w ts s h = complete-good at w ts s s.saga refl h
  run-good ms (Refuse at r q n e c) w ts s h = good-bind (λ t. Unit {0}) (λ t. sight_of w ts t ≡ sight_of w ts s) (text_of e w s) (λ t. Err (stop.Refused r n t)) (text-good e w ts s h) (λ t u. tt)
  run-good ms (If at x b o) w ts s h =
      let g = sight_of w ts s in
      let rest = right-nil (value_faults kind.Bool x g) _ h in
      good-bind (λ yes. Unit {0}) (λ t. sight_of w ts t ≡ sight_of w ts s) (truth_of x w s) (λ yes. chosen yes (within b w s) (otherwise o w s)) (truth-good x w ts s (left-nil (value_faults kind.Bool x g) _ h))
      (λ yes u. chosen-good (λ t. sight_of w ts t ≡ sight_of w ts s) yes (within b w s) (otherwise o w s) (within-good ms b w ts s (left-nil (braces_faults ms b g) _ rest)) (otherwise-good ms o w ts s (right-nil (braces_faults ms b g) _ rest)))

  pub turn-good : (ms : List MessageType) (ds : Phrases) (w : World) (ts : List (List ℕ)) (s : State) → phrases_faults ms ds (sight_of w ts s) ≡ [] → Good (λ t. sight_of w ts t ≡ all_after ds (sight_of w ts s)) (in_turn ds w s)
  turn-good ms Nil w ts s h = refl
  turn-good ms (Then d ds) w ts s h =
      good-bind (λ t. sight_of w ts t ≡ after d (sight_of w ts s)) (λ t. sight_of w ts t ≡ all_after ds (after d (sight_of w ts s))) (run d w s) (λ t. in_turn ds w t)
      (run-good ms d w ts s (left-nil (phrase_faults ms d (sight_of w ts s)) _ h))
      (λ t e. subst (λ g. Good (λ u. sight_of w ts u ≡ all_after ds g) (in_turn ds w t)) e
      (turn-good ms ds w ts t (subst (λ g. phrases_faults ms ds g ≡ []) (sym e) (right-nil (phrase_faults ms d (sight_of w ts s)) _ h))))

  -- A checked block never meets a value of a wrong kind.
  pub within-good : (ms : List MessageType) (b : Braces) (w : World) (ts : List (List ℕ)) (s : State) → braces_faults ms b (sight_of w ts s) ≡ [] → Stays w ts s (within b w s)
  within-good ms (Brace o body c) w ts s h = block-good body w ts s (turn-good ms body w ts s h)

  otherwise-good : (ms : List MessageType) (o : Otherwise) (w : World) (ts : List (List ℕ)) (s : State) → otherwise_faults ms o (sight_of w ts s) ≡ [] → Stays w ts s (otherwise o w s)
  otherwise-good ms Nothing w ts s h = refl
  otherwise-good ms (Last at b) w ts s h = within-good ms b w ts s h
  otherwise-good ms (Chain at q x b o) w ts s h =
      let g = sight_of w ts s in
      let rest = right-nil (value_faults kind.Bool x g) _ h in
      good-bind (λ yes. Unit {0}) (λ t. sight_of w ts t ≡ sight_of w ts s) (truth_of x w s) (λ yes. chosen yes (within b w s) (otherwise o w s)) (truth-good x w ts s (left-nil (value_faults kind.Bool x g) _ h))
      (λ yes u. chosen-good (λ t. sight_of w ts t ≡ sight_of w ts s) yes (within b w s) (otherwise o w s) (within-good ms b w ts s (left-nil (braces_faults ms b g) _ rest)) (otherwise-good ms o w ts s (right-nil (braces_faults ms b g) _ rest)))
