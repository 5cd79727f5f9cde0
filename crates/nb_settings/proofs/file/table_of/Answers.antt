use Rattle.std.proofs.Common.{◌≡◌, true, false, refl}
use Rattle.std.proofs.lemmas.Str.{is_utf8-from_IsUtf8, IsUtf8-from_is_utf8}
use Rattle.std.specs.Str.{is_utf8}
use Rattle.std.specs.Prelude.{None, cond}
use Rattle.toml.specs.Parse.{parse_document}
use Rattle.toml.proofs.Views.{view-Table}
use Rattle.nb_settings.proofs.file.table_of.Goals as goal

pub returns-in-Ok : goal.returns-in-Ok
returns-in-Ok c = (_, rw (is_utf8-from_IsUtf8 _ c.in-Ok.ensures.ok.0) c.in-Ok.ensures.ok.1, view-Table c.in-Ok.table)

pub returns-in-Err-2 : goal.returns-in-Err-2
returns-in-Err-2 c =
    (elim (is_utf8 c.args.bytes.now) as (λ b. is_utf8 c.args.bytes.now ≡ b → cond b (parse_document c.args.bytes.now) None ≡ None) [
      | true ↦ λ e. c.in-Err.ensures.refused (λ m. let t = c.is_memory.ensures.1 m in let f = c.if-is_memory.false in cc) (IsUtf8-from_is_utf8 _ e)
      | false ↦ λ e. refl
    ]) refl
