use Rattle.std.proofs.Common.{◌≡◌, take, drop, length}
use Rattle.nb_eval.specs.Statements.{with_field, behind}
use Rattle.nb_eval.proofs.stmt.set_field.Given as goal

abbrev pub invariant-loop-i : goal.invariant-loop-i
invariant-loop-i l = record {
  end : l.i-end ≡ length l.fields;
  name : l.name ≡ l.fn.name;
  same : l.fields ≡ l.initial.fields;
  so_far : with_field l.name l.value l.fields ≡ behind (take l.i l.fields) (with_field l.name l.value (drop l.i l.fields));
}
