-- Why a call of the database was refused.
use Rattle.std.specs.Prelude.{◌≡◌, ⊤}
use Rattle.sqlite.specs.declared.error.Error.TheVariants.{SqliteFailure}
use Rattle.sqlite.specs.declared.error.ErrorCode.TheVariants.{OutOfMemory}
use Rattle.nb_sql.specs.declared.refusal.Refusal.{Refusal}
use Rattle.nb_sql.specs.declared.refusal.Refusal.TheVariants.{Database, NoMemory}

-- for want of memory
abbrev pub WantsMemory : Refusal → Type 0
WantsMemory (Database e) = e ≡ SqliteFailure OutOfMemory
WantsMemory NoMemory = ⊤
