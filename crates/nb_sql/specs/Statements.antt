-- The texts of the statements, and the schema that the first makes.
use Rattle.sqlite.specs.Collation.TheVariants.{Binary}
use Rattle.std.specs.Prelude.{true, false, [], ◌∷◌, None, codes, List, ℕ, Result, Ok, Err}
use Rattle.sqlite.specs.declared.types.Value.TheVariants.{Null}
use Rattle.sqlite_resolve.specs.declared.compiled.Compiled.{Compiled}
use Rattle.sqlite_resolve.specs.declared.error.CompileError.{CompileError}
use Rattle.sqlite_schema.specs.declared.command.Command.{Command}
use Rattle.sqlite_schema.specs.declared.command.Command.TheVariants.{Nothing}
use Rattle.sqlite.specs.Table.{Table}
use Rattle.sqlite.specs.Schema.{Schema}
use Rattle.sqlite_schema.specs.declared.schema.Index.{Index}
use Rattle.sqlite.specs.Kind.TheVariants.{Integer, Blob}

abbrev pub create_text : List ℕ
create_text = codes "CREATE TABLE IF NOT EXISTS cells(space INTEGER NOT NULL, slot BLOB NOT NULL, held BLOB NOT NULL, PRIMARY KEY(space, slot)) STRICT"

abbrev pub get_text : List ℕ
get_text = codes "SELECT held FROM cells WHERE space = ?1 AND slot = ?2"

abbrev pub scan_text : List ℕ
scan_text = codes "SELECT slot, held FROM cells WHERE space = ?1 ORDER BY slot"

abbrev pub put_text : List ℕ
put_text = codes "INSERT INTO cells(space, slot, held) VALUES(?1, ?2, ?3) ON CONFLICT(space, slot) DO UPDATE SET held = excluded.held"

abbrev pub erase_text : List ℕ
erase_text = codes "DELETE FROM cells WHERE space = ?1 AND slot = ?2"

abbrev pub no_schema : Schema
no_schema = record { tables = []; indexes = []; views = [] }

abbrev pub cells_table : Table
cells_table = record {
  name = codes "cells";
  tree = 0;
  columns = (record { name = codes "space"; kind = Integer; is_strict = true; not_null = true; default = Null; collation = Binary })
      ∷ (record { name = codes "slot"; kind = Blob; is_strict = true; not_null = true; default = Null; collation = Binary })
      ∷ (record { name = codes "held"; kind = Blob; is_strict = true; not_null = true; default = Null; collation = Binary }) ∷ [];
  key = None;
  primary = 1 ∷ 2 ∷ [];
  uniques = (1 ∷ 2 ∷ []) ∷ [];
  orders = (record { digits = 0 }) ∷ [];
  checks = [];
  references = [];
  computed = [];
  stamps = record { places = []; terms = []; formats = [] };
  is_counted = false;
}

abbrev pub cells_index : Index
cells_index = record { name = codes "sqlite_autoindex_cells_1"; tree = 1; table = 0; columns = 1 ∷ 2 ∷ []; order = record { digits = 0 }; is_unique = true }

abbrev pub cells_schema : Schema
cells_schema = record { tables = cells_table ∷ []; indexes = cells_index ∷ []; views = [] }

abbrev pub command_of : Result Compiled CompileError → Command
command_of (Ok c) = c.command
command_of (Err e) = Nothing
