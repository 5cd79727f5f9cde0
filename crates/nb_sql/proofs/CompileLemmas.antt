-- What the texts compile to.
use Rattle.std.proofs.Common.{◌≡◌, [], ◌∷◌, Ok, refl, false, codes}
use Rattle.sqlite_schema.specs.declared.command.Command.TheVariants.{CreateTable, Select, InsertOr, Delete, Nothing}
use Rattle.sqlite_schema.specs.declared.command.Source.TheVariants.{Values}
use Rattle.sqlite.specs.Compile.{table_defined_by}
use Rattle.sqlite.specs.Change.{created}
use Rattle.sqlite_schema.specs.declared.command.Conflict.TheVariants.{Abort}
use Rattle.sqlite_tied.specs.Compute.{everything}
use Rattle.sqlite.specs.Listing.{understood, reads_listing}
use Rattle.sqlite.proofs.Callers.{IsPlain, command_of, statement_of}
use Rattle.nb_sql.specs.Statements.{create_text, get_text, scan_text, put_text, erase_text, no_schema, cells_table, cells_schema}
use Rattle.nb_sql.specs.Meaning.{get_query, scan_query, erase_query, put_terms, put_clause}

pub create_is : (command_of (understood no_schema create_text) ≡ CreateTable) × (statement_of create_text (understood no_schema create_text) ≡ create_text) × (table_defined_by create_text ≡ Ok cells_table) × (created no_schema cells_table ≡ cells_schema)
unfolding understood everything
create_is = (refl, refl, refl, refl)

pub create_plain : IsPlain (understood no_schema create_text)
unfolding understood everything
create_plain = (refl, refl)

-- again over the table: nothing
pub again_is : command_of (understood cells_schema create_text) ≡ Nothing
unfolding understood everything
again_is = refl

pub again_plain : IsPlain (understood cells_schema create_text)
unfolding understood everything
again_plain = (refl, refl)

pub get_is : command_of (understood cells_schema get_text) ≡ Select (record { lets = []; body = get_query }) (codes "held" ∷ [])
unfolding understood everything
get_is = refl

pub get_plain : IsPlain (understood cells_schema get_text)
unfolding understood everything
get_plain = (refl, refl)

pub scan_is : command_of (understood cells_schema scan_text) ≡ Select (record { lets = []; body = scan_query }) (codes "slot" ∷ codes "held" ∷ [])
unfolding understood everything
scan_is = refl

pub scan_plain : IsPlain (understood cells_schema scan_text)
unfolding understood everything
scan_plain = (refl, refl)

pub erase_is : command_of (understood cells_schema erase_text) ≡ Delete 0 (record { lets = []; body = erase_query })
unfolding understood everything
erase_is = refl

pub erase_plain : IsPlain (understood cells_schema erase_text)
unfolding understood everything
erase_plain = (refl, refl)

pub put_is : command_of (understood cells_schema put_text) ≡ InsertOr 0 Abort (Values put_terms 4) (put_clause ∷ [])
unfolding understood everything
put_is = refl

pub put_plain : IsPlain (understood cells_schema put_text)
unfolding understood everything
put_plain = (refl, refl)

pub unlisted : (reads_listing cells_schema get_text ≡ false) × (reads_listing cells_schema scan_text ≡ false)
unfolding everything
unlisted = (refl, refl)
