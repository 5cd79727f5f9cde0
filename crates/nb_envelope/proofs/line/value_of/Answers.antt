use Rattle.std.proofs.Common.{◌≡◌, true, false, refl}
use Rattle.std.proofs.lemmas.Str.{is_utf8-from_IsUtf8, IsUtf8-from_is_utf8}
use Rattle.std.specs.Str.{is_utf8}
use Rattle.serde_json.specs.Read.{read}
use Rattle.std.specs.Prelude.{None, cond}
use Rattle.nb_envelope.proofs.line.value_of.Goals as goal

pub returns-in-Ok : goal.returns-in-Ok
returns-in-Ok c = rw (is_utf8-from_IsUtf8 _ c.in-Ok.ensures.ok.0) c.in-Ok.ensures.ok.1

pub returns-in-Err-2 : goal.returns-in-Err-2
returns-in-Err-2 c =
    (elim (is_utf8 c.args.line.now) as (λ b. is_utf8 c.args.line.now ≡ b → cond b (read c.args.line.now) None ≡ None) [
      | true ↦ λ e. c.in-Err.ensures.err (λ m. let t = c.is_memory.ensures.1 m in let f = c.if-is_memory.false in cc) (IsUtf8-from_is_utf8 _ e)
      | false ↦ λ e. refl
    ]) refl
