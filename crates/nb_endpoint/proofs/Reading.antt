-- Why a script isn't one.
use Rattle.std.proofs.Common.{◌≡◌, ◌≢◌, ⊎_elim, List, ℕ, refl, sym, subst}
use Rattle.std.specs.Prelude.{Some, Err}
use Rattle.nb_check.specs.Breaches.{first_of}
use Rattle.nb_check.specs.Faults as check
use Rattle.nb_check.specs.Rules.{script_faults}
use Rattle.nb_check.specs.declared.breach.Breach.{Breach}
use Rattle.nb_check.specs.declared.breach.CheckKind.{CheckKind}
use Rattle.nb_check.specs.declared.breach.CheckKind.TheVariants as rule
use Rattle.nb_check.specs.declared.fault.CheckFault.{CheckFault}
use Rattle.nb_endpoint.specs.Scripts.{IsMistake, Checks, of_text, at_text, of_rule, at_rule}
use Rattle.nb_endpoint.specs.declared.status.Mistake.TheVariants.{Rule, Syntax}
use Rattle.nb_script.specs.Grammar.{ItemTerm}
use Rattle.nb_script.specs.Parsing.{IsScriptText, IsFault}
use Rattle.nb_script.specs.Scripts.{items_of, text_of}
use Rattle.nb_script.specs.declared.tree.Script.{Script}
use Rattle.nb_script.specs.declared.script.ScriptFault.{ScriptFault}
use Rattle.nb_script.specs.declared.script.ScriptKind.{ScriptKind}
use Rattle.nb_script.specs.declared.script.ScriptKind.TheVariants as syntax

pub text_refused : (bytes : List ℕ) (f : ScriptFault) → IsFault bytes f → Checks bytes (Err (of_text f))
text_refused bytes f h = go f.kind refl
  where
    here : (k : ScriptKind) → k ≢ syntax.NoMemory → f.kind ≡ k → IsMistake bytes f.line f.column (Syntax k)
    here k other is = (other, subst (λ (x : ScriptKind). IsFault bytes (record { line = f.line; column = f.column; kind = x })) is h)

    go : (k : ScriptKind) → f.kind ≡ k → Checks bytes (Err (at_text f k))
    go syntax.NoMemory is = tt
    go syntax.TooLong is = here syntax.TooLong (λ e. absurd cc) is
    go syntax.NotUtf8 is = here syntax.NotUtf8 (λ e. absurd cc) is
    go syntax.BadToken is = here syntax.BadToken (λ e. absurd cc) is
    go syntax.BadText is = here syntax.BadText (λ e. absurd cc) is
    go syntax.BadNumber is = here syntax.BadNumber (λ e. absurd cc) is
    go syntax.TooDeep is = here syntax.TooDeep (λ e. absurd cc) is
    go syntax.Expected is = here syntax.Expected (λ e. absurd cc) is

-- a script that breaks a rule
broken : (bytes : List ℕ) (items : List ItemTerm) (b : Breach) (f : CheckFault) → IsScriptText bytes items → first_of (script_faults items) ≡ Some b → check.StandsAt bytes b f → Checks bytes (Err (of_rule f))
broken bytes items b f text first stands = go f.kind refl
  where
    here : (k : CheckKind) → k ≢ rule.NoMemory → f.kind ≡ k → IsMistake bytes f.line f.column (Rule k)
    here k other is = (other, items, b, text, first, subst (λ (x : CheckKind). check.StandsAt bytes b (record { line = f.line; column = f.column; kind = x })) is stands)

    go : (k : CheckKind) → f.kind ≡ k → Checks bytes (Err (at_rule f k))
    go rule.NoMemory is = tt
    go rule.MessageTwice is = here rule.MessageTwice (λ e. absurd cc) is
    go rule.SagaTwice is = here rule.SagaTwice (λ e. absurd cc) is
    go rule.FieldTwice is = here rule.FieldTwice (λ e. absurd cc) is
    go rule.BadCorrelation is = here rule.BadCorrelation (λ e. absurd cc) is
    go rule.BadRevision is = here rule.BadRevision (λ e. absurd cc) is
    go rule.UnknownMessage is = here rule.UnknownMessage (λ e. absurd cc) is
    go rule.PartTwice is = here rule.PartTwice (λ e. absurd cc) is
    go rule.UnknownField is = here rule.UnknownField (λ e. absurd cc) is
    go rule.FieldMissing is = here rule.FieldMissing (λ e. absurd cc) is
    go rule.NoSaga is = here rule.NoSaga (λ e. absurd cc) is
    go rule.SetsCorrelation is = here rule.SetsCorrelation (λ e. absurd cc) is
    go rule.NoTimeoutPart is = here rule.NoTimeoutPart (λ e. absurd cc) is
    go rule.NameTwice is = here rule.NameTwice (λ e. absurd cc) is
    go rule.UnknownName is = here rule.UnknownName (λ e. absurd cc) is
    go rule.RowName is = here rule.RowName (λ e. absurd cc) is
    go rule.WrongType is = here rule.WrongType (λ e. absurd cc) is

pub rule_refused : (bytes : List ℕ) (s : Script) (f : CheckFault) → IsScriptText bytes (items_of s) → text_of s ≡ bytes → check.IsCheckFault s f → Checks bytes (Err (of_rule f))
rule_refused bytes s f text same h =
    ⊎_elim
    (λ (none : f ≡ check.nowhere). subst (λ (x : CheckFault). Checks bytes (Err (of_rule x))) (sym none) tt)
    (λ (x : (b : Breach) × (first_of (script_faults (items_of s)) ≡ Some b) × check.StandsAt (text_of s) b f).
    broken bytes (items_of s) x.0 f text x.1 (subst (λ (t : List ℕ). check.StandsAt t x.0 f) same x.2))
    h
