-- What the texts compile to over the table.
use Rattle.std.specs.Prelude.{List, [], ◌∷◌, None, Some, false, negsuc, pos}
use Rattle.sqlite.specs.Collation.TheVariants.{Binary}
use Rattle.sqlite.specs.declared.types.Value.TheVariants.{Null, Int}
use Rattle.sqlite.specs.Term.{Term, lit, col, op2}
use Rattle.sqlite.specs.Query.{Query, inner, end}
use Rattle.sqlite_sql.specs.declared.ops.BinaryOp.TheVariants.{Compare}
use Rattle.sqlite_sql.specs.declared.ops.CompareOp.TheVariants.{Eq}
use Rattle.sqlite_schema.specs.declared.command.Upsert.{Upsert}

abbrev pub equal : Term → Term → Term
equal a b = op2 (Compare Eq Binary) a b

abbrev pub rows_where : List Term → List Term → Query
rows_where filter project = record {
  from = inner 0 end;
  filter = filter;
  group = None;
  project = project;
  distinct = false;
  collations = [];
  order = [];
  limit = lit (Int (negsuc 0));
  offset = lit (Int (pos 0));
}

abbrev pub at_place : List Term
at_place = equal (col 1 1) (col 0 0) ∷ equal (col 1 2) (col 0 1) ∷ []

abbrev pub get_query : Query
get_query = rows_where at_place (col 1 3 ∷ [])

abbrev pub erase_query : Query
erase_query = rows_where at_place (col 1 0 ∷ [])

abbrev pub at_space : List Term
at_space = equal (col 1 1) (col 0 0) ∷ []

abbrev pub scan_query : Query
scan_query = record (rows_where at_space (col 1 2 ∷ col 1 3 ∷ [])) { order = (col 1 2, record { collation = Binary; descending = false }) ∷ [] }

abbrev pub update_query : Query
update_query = rows_where (equal (col 1 0) (col 0 3) ∷ []) (col 1 0 ∷ col 1 0 ∷ col 1 1 ∷ col 1 2 ∷ col 0 7 ∷ [])

abbrev pub put_terms : List Term
put_terms = lit Null ∷ col 0 0 ∷ col 0 1 ∷ col 0 2 ∷ []

abbrev pub put_clause : Upsert
put_clause = record { target = Some (1 ∷ 2 ∷ []); update = Some (record { lets = []; body = update_query }) }
