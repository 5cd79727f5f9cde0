use Rattle.std.proofs.Common.{◌≡◌, ◌++◌, drop, string_bytes}
use Rattle.nb_check.specs.Declarations.{dotted, type_text}
use Rattle.nb_eval.proofs.make.type_text.Given as goal

abbrev pub invariant-loop-part : goal.invariant-loop-part
invariant-loop-part l = type_text l.name ≡ string_bytes l.text ++ dotted (drop l.part-index l.name.others)
