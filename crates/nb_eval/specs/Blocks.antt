-- What the blocks of handlers and sagas do, and all the blocks that a message meets.
use Rattle.std.specs.Prelude.{◌≡◌, ℕ, ◌+◌, ◌^◌, nat_lt, nat_abs, List, [], ◌∷◌, ◌++◌, false, if◌then◌else◌, Option, Some, None, slice_get, Ok, Err}
use Rattle.nb_base.specs.declared.plan.SagaRef.{SagaRef}
use Rattle.nb_base.specs.declared.plan.SagaRef.TheVariants as saga_ref
use Rattle.nb_base.specs.declared.plan.Write.{Write}
use Rattle.nb_base.specs.declared.plan.Write.TheVariants as write
use Rattle.nb_base.specs.declared.saga_row.SagaRow.{SagaRow}
use Rattle.nb_base.specs.declared.value.Field.{Field}
use Rattle.nb_base.specs.declared.value.Key.TheVariants as key
use Rattle.nb_base.specs.declared.value.Value.{Value}
use Rattle.nb_script.specs.declared.item.Finder.{Finder}
use Rattle.nb_script.specs.declared.item.Finder.TheVariants.{Start, Find}
use Rattle.nb_script.specs.Grammar.{Braces, ItemTerm, Message, Handler, Saga}
use Rattle.nb_check.specs.Blocks.{Role, Handles, Finds, Answers, BlockTerm}
use Rattle.nb_check.specs.Declarations.{saga_type}
use Rattle.nb_check.specs.Fits.{saga_named, first_field, lifted}
use Rattle.nb_check.specs.Keys.{value_in}
use Rattle.nb_check.specs.Meets.{is_met}
use Rattle.nb_check.specs.declared.incoming.Incoming.{Incoming}
use Rattle.nb_check.specs.declared.types.SagaType.{SagaType}
use Rattle.nb_check.specs.declared.types.StateField.{StateField}
use Rattle.nb_eval.specs.declared.scene.Instance.{Instance}
use Rattle.nb_eval.specs.declared.scene.State.{State}
use Rattle.nb_eval.specs.declared.stop.Stop.TheVariants as stop
use Rattle.nb_eval.specs.Values.{Answer, ◌>>=◌, found}
use Rattle.nb_eval.specs.Worlds.{World, saga_there}
use Rattle.nb_eval.specs.Statements.{within}

-- ---- instances

-- a saga that was found, in its lifted form
abbrev pub stored_instance : SagaType → SagaRow → Instance
stored_instance t row = record {
  saga = t.name;
  property = t.correlation.name;
  revision = (lifted t row).revision;
  which = saga_ref.Stored row.id;
  corr = row.corr;
  originator = row.originator;
  original = row.original;
  fields = (lifted t row).fields;
  completed = false;
}

abbrev pub first_fields : List StateField → List Field
first_fields [] = []
first_fields (f ∷ fs) = first_field f ∷ first_fields fs

-- a new saga with this value, of the block at this place among the blocks met
abbrev pub new_instance : SagaType → Value → ℕ → World → Instance
new_instance t v block w = record {
  saga = t.name;
  property = t.correlation.name;
  revision = nat_abs t.revision;
  which = saga_ref.New block;
  corr = v;
  originator = w.reply_to;
  original = w.id;
  fields = first_fields t.fields;
  completed = false;
}

-- ---- the end of a block

abbrev pub put_saga : Instance → Write
put_saga i = write.SagaPut i.saga i.corr i.revision i.which i.originator i.original i.fields

-- a new instance that completed is not written
abbrev pub completed_write : SagaRef → Instance → List Write
completed_write (saga_ref.New block) i = []
completed_write (saga_ref.Stored id) i = write.SagaErase i.saga i.corr ∷ []

abbrev pub instance_write : Instance → List Write
instance_write i = if i.completed then completed_write i.which i else put_saga i ∷ []

abbrev pub saga_write : Option Instance → List Write
saga_write None = []
saga_write (Some i) = instance_write i

-- the saga is written, or erased where it completed
abbrev pub ended : State → State
ended s = record s { saga = None; writes = s.writes ++ saga_write s.saga }

-- ---- blocks

abbrev pub enter : Option Instance → State → State
enter saga s = record s { saga = saga; names = [] }

abbrev pub in_block : Option Instance → Braces → World → State → Answer State
in_block saga b w s = within b w (enter saga s) >>= λ t. Ok (ended t)

-- the place among the blocks met is a number of 32 bits
abbrev pub numbered : ℕ → Answer ℕ
numbered block = if nat_lt block (2 ^ 32) then Ok block else Err stop.Wrong

-- a start block works on a new instance where none is found; any other block does nothing
abbrev pub on_absent : Finder → SagaType → Value → ℕ → Braces → World → State → Answer State
on_absent Start t v block b w s = numbered block >>= λ n. in_block (Some (new_instance t v n w)) b w s
on_absent Find t v block b w s = Ok s

abbrev pub on_found : Finder → SagaType → Value → ℕ → Option SagaRow → Braces → World → State → Answer State
on_found f t v block None b w s = on_absent f t v block b w s
on_found f t v block (Some row) b w s = in_block (Some (stored_instance t row)) b w s

abbrev pub on_answer : SagaType → Option SagaRow → Braces → World → State → Answer State
on_answer t None b w s = Ok s
on_answer t (Some row) b w s = in_block (Some (stored_instance t row)) b w s

-- what a block does, at its place among the blocks met
abbrev pub block_does : List SagaType → ℕ → Role → Braces → World → State → Answer State
block_does types block Handles b w s = in_block None b w s
block_does types block (Finds f saga field) b w s =
    found (value_in field w.fields) >>= λ v. found (saga_named saga types) >>= λ t. on_found f t v block (saga_there (w.look (key.ByCorr saga v))) b w s
block_does types block (Answers a saga) b w s =
    found (saga_named saga types) >>= λ t. on_answer t (saga_there (w.look (key.ById saga w.saga_id))) b w s

abbrev pub term_does : List SagaType → ℕ → BlockTerm → World → State → Answer State
term_does types block b w s = block_does types block b.role b.body w s

-- the blocks that the message meets, in the order of the script, of which the first has this place
abbrev pub blocks_do : List SagaType → Incoming → ℕ → List BlockTerm → World → State → Answer State
blocks_do types m block [] w s = Ok s
blocks_do types m block (b ∷ bs) w s =
    if is_met m b then term_does types block b w s >>= (λ t. blocks_do types m (block + 1) bs w t) else blocks_do types m block bs w s

-- ---- blocks by their numbers

abbrev pub at_does : List SagaType → ℕ → Option BlockTerm → World → State → Answer State
at_does types block None w s = Err stop.Wrong
at_does types block (Some b) w s = term_does types block b w s

-- the blocks with these numbers one after the other, of which the first has this place
abbrev pub numbers_do : List SagaType → List BlockTerm → ℕ → List ℕ → World → State → Answer State
numbers_do types bs block [] w s = Ok s
numbers_do types bs block (n ∷ ns) w s = at_does types block (slice_get bs n) w s >>= λ t. numbers_do types bs (block + 1) ns w t

-- a saga's name leads to its declaration
abbrev pub IsDeclared : List SagaType → ItemTerm → Type 0
IsDeclared types (Message at n o fs c) = Unit {0}
IsDeclared types (Handler at n b) = Unit {0}
IsDeclared types (Saga s) = saga_named s.name types ≡ Some (saga_type s)
