use Rattle.std.proofs.Common.{◌≡◌, ◌∙◌, subst, IfOk}
use Rattle.nb_script.proofs.Digits.{no_quotes}
use Rattle.nb_script.proofs.content.quoted.Goals as goal

pub returns-then-raw-lt2 : goal.returns-then-raw-lt2
returns-then-raw-lt2 c = subst (λ ys. IfOk c.text_of.result (λ t. t ≡ ys)) (c.new.ensures.items ∙ no_quotes c.args.raw.now c.if-raw-lt2.true) c.text_of.ensures
