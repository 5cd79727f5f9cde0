-- Rules that a script breaks, with the places where it does, and the first of them.
use Rattle.std.specs.Prelude.{◌≡◌, ℕ, List, [], ◌∷◌, ◌++◌, Bool, not, ◌&&◌, ◌||◌, ◌==◌, bytes_eq, nat_lt, if◌then◌else◌, Option, Some, None, is_some}
use Rattle.nb_check.specs.declared.breach.Breach.{Breach}
use Rattle.nb_check.specs.declared.breach.CheckKind.{CheckKind}
use Rattle.nb_check.specs.declared.breach.CheckKind.TheVariants.{MessageTwice, SagaTwice, FieldTwice, BadCorrelation, BadRevision, UnknownMessage, PartTwice, UnknownField, FieldMissing, NoSaga, SetsCorrelation, NoTimeoutPart, NameTwice, UnknownName, RowName, WrongType, NoMemory}
use Rattle.nb_check.specs.declared.breach.Placed.{Placed}

abbrev pub breach : ℕ → CheckKind → List Breach
breach at rule = record { at = at; rule = rule } ∷ []

abbrev pub unless_true : Bool → ℕ → CheckKind → List Breach
unless_true holds at rule = if holds then [] else breach at rule

abbrev pub unless_some : {A : Type 0} → Option A → ℕ → CheckKind → List Breach
unless_some o at rule = unless_true (is_some o) at rule

-- ---- names that stand twice

abbrev pub again : CheckKind → List ℕ → List Placed → List Breach
again rule name [] = []
again rule name (p ∷ ps) = unless_true (not (bytes_eq p.name name)) p.at rule ++ again rule name ps

-- each name that stands before too
abbrev pub twice : CheckKind → List Placed → List Breach
twice rule [] = []
twice rule (p ∷ ps) = again rule p.name ps ++ twice rule ps

-- no name stands twice
abbrev pub AllDiffer : List Placed → Type 0
AllDiffer ps = (rule : CheckKind) → twice rule ps ≡ []

-- ---- the first

-- the order in which rules are reported at one place
abbrev pub rank : CheckKind → ℕ
rank MessageTwice = 0
rank SagaTwice = 1
rank FieldTwice = 2
rank BadCorrelation = 3
rank BadRevision = 4
rank UnknownMessage = 5
rank PartTwice = 6
rank UnknownField = 7
rank FieldMissing = 8
rank NoSaga = 9
rank SetsCorrelation = 10
rank NoTimeoutPart = 11
rank NameTwice = 12
rank UnknownName = 13
rank RowName = 14
rank WrongType = 15
rank NoMemory = 16

-- at an earlier place, or at one place by an earlier rule
abbrev pub is_before : Breach → Breach → Bool
is_before a b = nat_lt a.at b.at || (a.at == b.at && nat_lt (rank a.rule) (rank b.rule))

abbrev pub earlier : Option Breach → Breach → Breach
earlier None f = f
earlier (Some b) f = if is_before f b then f else b

-- the first of the best so far and these
abbrev pub first_from : Option Breach → List Breach → Option Breach
first_from best [] = best
first_from best (f ∷ fs) = first_from (Some (earlier best f)) fs

-- the breach that no other is before
abbrev pub first_of : List Breach → Option Breach
first_of fs = first_from None fs
