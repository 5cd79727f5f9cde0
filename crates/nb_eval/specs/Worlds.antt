-- Where a message is handled, and what was done so far.
use Rattle.std.specs.Prelude.{ℕ, ℤ, pos, negsuc, List, [], ◌∷◌, bytes_eq, if◌then◌else◌, Option, Some, None}
use Rattle.nb_base.specs.declared.saga_row.Read.{Read}
use Rattle.nb_base.specs.declared.saga_row.SagaRow.{SagaRow}
use Rattle.nb_base.specs.declared.saga_row.Seen.{Seen}
use Rattle.nb_base.specs.declared.saga_row.Seen.TheVariants.{Absent, Saga, Row}
use Rattle.nb_base.specs.declared.value.Field.{Field}
use Rattle.nb_base.specs.declared.value.Key.{Key}
use Rattle.nb_base.specs.declared.value.Key.TheVariants as key
use Rattle.nb_base.specs.declared.value.Value.{Value}
use Rattle.nb_check.specs.Keys.{value_in, same_key}
use Rattle.nb_eval.specs.declared.scene.Instance.{Instance}
use Rattle.nb_eval.specs.declared.scene.Scene.{Scene}
use Rattle.nb_eval.specs.declared.scene.State.{State}
use Rattle.nb_eval.specs.declared.scene.Touched.{Touched}

-- What doesn't change while a message is handled: what the message says, the moment, and what stands in the tables at
-- each key.
pub record World : Type 0 where
  pub fields : List Field
  pub id : List ℕ
  -- the id of the saga that the headers name, or the empty text
  pub saga_id : List ℕ
  -- the reply address, or the empty text
  pub reply_to : List ℕ
  pub round : ℕ
  pub moment : ℕ
  pub sent : Option ℕ
  pub look : Key → Seen

-- what was read at a key; a key that wasn't read shows nothing
abbrev pub seen_in : List Read → Key → Seen
seen_in [] k = Absent
seen_in (r ∷ rs) k = if same_key r.key k then r.seen else seen_in rs k

abbrev pub world_of : Scene → World
world_of c = record { fields = c.fields; id = c.id; saga_id = c.saga_id; reply_to = c.reply_to; round = c.round; moment = c.moment; sent = c.sent; look = seen_in c.reads }

-- ---- sagas and rows that stand in the tables

abbrev pub saga_there : Seen → Option SagaRow
saga_there Absent = None
saga_there (Saga row) = Some row
saga_there (Row version value) = None

abbrev pub number_there : Seen → Option ℤ
number_there Absent = None
number_there (Saga row) = None
number_there (Row version value) = Some value

-- ---- rows as the statements so far left them

-- what the row was set to: nothing where no statement touched it, and no number where it was erased
abbrev pub touched_at : List ℕ → List Touched → Option (Option ℤ)
touched_at name [] = None
touched_at name (t ∷ ts) = if bytes_eq t.name name then Some t.value else touched_at name ts

abbrev pub or_there : Option (Option ℤ) → Seen → Option ℤ
or_there (Some v) seen = v
or_there None seen = number_there seen

abbrev pub row_now : List ℕ → World → State → Option ℤ
row_now name w s = or_there (touched_at name s.touched) (w.look (key.Row name))

-- a row that is stored to, or erased where there is no number, in its place or at the end
abbrev pub stored : List ℕ → Option ℤ → List Touched → List Touched
stored name v [] = record { name = name; value = v } ∷ []
stored name v (t ∷ ts) = if bytes_eq t.name name then record { name = name; value = v } ∷ ts else t ∷ stored name v ts

abbrev pub put_row : List ℕ → Option ℤ → State → State
put_row name v s = record s { touched = stored name v s.touched }

-- ---- the saga's fields

abbrev pub named : List ℕ → Value → Field
named name v = record { name = name; value = v }

-- the correlation property, and then the other fields
abbrev pub all_fields : Instance → List Field
all_fields i = named i.property i.corr ∷ i.fields

abbrev pub saga_value : List ℕ → Option Instance → Option Value
saga_value name None = None
saga_value name (Some i) = value_in name (all_fields i)

-- ---- moments

-- the seconds, or -1 where there is no moment
abbrev pub seconds_or_minus_one : Option ℕ → ℤ
seconds_or_minus_one None = negsuc 0
seconds_or_minus_one (Some n) = pos n
