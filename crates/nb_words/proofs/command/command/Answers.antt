use Rattle.std.proofs.Common.{◌≡◌, ◌∙◌, ap, codes}
use Rattle.clap.specs.Words.{app_of, new_app}
use Rattle.clap.specs.Simple.{app_of_fields}
use Rattle.nb_words.specs.Cli.{bare, cli}
use Rattle.nb_words.proofs.CliLaws.{added}
use Rattle.nb_words.proofs.command.command.Goals as goal

pub returns : goal.returns
unfolding cli
returns c =
    let start = ap app_of_fields c.no_binary_name.ensures ∙ ap bare c.new.ensures.app in
    added _ _ _ _ _
    (added _ _ _ _ _
    (added _ _ _ _ _
    (added _ _ _ _ _
    (added _ _ _ _ _
    (added _ _ _ _ _
    (added _ _ _ _ _ start c.word_arg.ensures.rule c.word_arg.ensures.own c.in_ok-arg.ensures)
    c.option_arg.ensures.rule c.option_arg.ensures.own c.in_ok-arg-2.ensures)
    c.option_arg-2.ensures.rule c.option_arg-2.ensures.own c.in_ok-arg-3.ensures)
    c.option_arg-3.ensures.rule c.option_arg-3.ensures.own c.in_ok-arg-4.ensures)
    c.option_arg-4.ensures.rule c.option_arg-4.ensures.own c.in_ok-arg-5.ensures)
    c.option_arg-5.ensures.rule c.option_arg-5.ensures.own c.in_ok-arg-6.ensures)
    c.option_arg-6.ensures.rule c.option_arg-6.ensures.own c.in_ok-command.ensures
