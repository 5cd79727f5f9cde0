-- The read set has each key once.
use Rattle.std.proofs.Common.{◌≡◌, ◌<◌, List, [], ◌∷◌, ◌++◌, length, true, false, refl, cond, Option, Some, None, arith}
use Rattle.std.specs.List.{AllByRecursion, IsDistinct}
use Rattle.nb_base.specs.Messages.{Message}
use Rattle.nb_base.specs.declared.value.Field.{Field}
use Rattle.nb_base.specs.declared.value.Key.{Key}
use Rattle.nb_headers.specs.Reads.{id_of}
use Rattle.nb_script.specs.Grammar.{ItemTerm}
use Rattle.nb_check.specs.Blocks.{blocks}
use Rattle.nb_check.specs.Declarations.{names_of}
use Rattle.nb_check.specs.Keys.{same_key, has_key, with_key, with_keys, met_keys, keys_for, keys_by, fields_for, read_set}
use Rattle.nb_check.specs.Meets.{incoming}
use Rattle.nb_check.specs.declared.incoming.Incoming.{Incoming}
use Rattle.nb_check.specs.declared.types.MessageType.{MessageType}
use Rattle.std.specs.Prelude.{slice_get}

all_more : (P : Key → Type 0) (ks : List Key) (x : Key) → AllByRecursion P ks → P x → AllByRecursion P (ks ++ x ∷ [])
all_more P [] x h p = (p, tt)
all_more P (k ∷ ks) x h p = (h.0, all_more P ks x h.1 p)

distinct_more : (ks : List Key) (x : Key) → has_key x ks ≡ false → IsDistinct same_key ks → IsDistinct same_key (ks ++ x ∷ [])
unfolding IsDistinct
distinct_more [] x e h = (tt, tt)
distinct_more (k ∷ ks) x e h =
    (elim (same_key k x) as (λ b. same_key k x ≡ b → cond b true (has_key x ks) ≡ false → IsDistinct same_key (k ∷ ks ++ x ∷ [])) [
      | true ↦ λ is l. absurd cc
      | false ↦ λ is l. (all_more (λ y. same_key k y ≡ false) ks x h.0 is, distinct_more ks x l h.1)
    ]) refl e

with_key-distinct : (ks : List Key) (x : Key) → IsDistinct same_key ks → IsDistinct same_key (with_key ks x)
with_key-distinct ks x h =
    (elim (has_key x ks) as (λ b. has_key x ks ≡ b → IsDistinct same_key (cond b ks (ks ++ x ∷ []))) [
      | true ↦ λ e. h
      | false ↦ λ e. distinct_more ks x e h
    ]) refl

with_keys-distinct : (ks more : List Key) → IsDistinct same_key ks → IsDistinct same_key (with_keys ks more)
with_keys-distinct ks [] h = h
with_keys-distinct ks (x ∷ more) h = with_keys-distinct (with_key ks x) more (with_key-distinct ks x h)

none : IsDistinct same_key []
unfolding IsDistinct
none = tt

keys_for-distinct : (items : List ItemTerm) (e : Message) (m : Incoming) (o : Option (List Field)) → IsDistinct same_key (keys_for items e m o)
keys_for-distinct items e m None = none
keys_for-distinct items e m (Some fields) = with_keys-distinct [] (met_keys m (record { id = id_of e; fields = fields }) (blocks items)) none

keys_by-distinct : (items : List ItemTerm) (types : List MessageType) (e : Message) (o : Option Incoming) → IsDistinct same_key (keys_by items types e o)
keys_by-distinct items types e None = none
keys_by-distinct items types e (Some m) = keys_for-distinct items e m (fields_for e (slice_get types m.message))

pub read_set-distinct : (items : List ItemTerm) (types : List MessageType) (e : Message) → IsDistinct same_key (read_set items types e)
read_set-distinct items types e = keys_by-distinct items types e (incoming (names_of types) e)

-- one key has no other like it
pub one_key : (ks : List Key) → length ks < 2 → with_keys [] ks ≡ ks
one_key [] h = refl
one_key (k ∷ []) h = refl
one_key (k ∷ l ∷ ks) h = absurd (omega arith)
