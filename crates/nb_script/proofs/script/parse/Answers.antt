use Rattle.std.proofs.Common.{◌≡◌, ◌≤◌, map, ap, sym, subst, suc, length, slice_get, ◌∙◌}
use Rattle.nb_script.specs.Lexing.{lexed, lexeme_of}
use Rattle.nb_script.specs.Parsing.{IsScriptText}
use Rattle.nb_script.specs.Tree.{item, Fails}
use Rattle.nb_script.specs.ReadingScript.{whole}
use Rattle.nb_script.proofs.First.{halts}
use Rattle.nb_script.proofs.Parsed.{parse_ok, parse_bad}
use Rattle.nb_script.proofs.Rereading.{read_is}
use Rattle.nb_script.proofs.script.parse.Goals as goal

pub returns-in-End-clause-ok : goal.returns-in-End-clause-ok
returns-in-End-clause-ok c =
    subst (λ rows. IsScriptText c.args.text.now (map item rows)) (sym c.made.ensures.rows)
    (parse_ok c.args.text.now c.in_ok-scanned.scanned c.as_slice-row.result.now (map item c.in-Ok.items) c.in-Ok.field-0-1
    (record { text_is = c.in_ok-valid.ensures.ok.0; scanned = c.in_ok-scanned.ensures; lexemes_are = c.as_slice-row.ensures.value ∙ c.in_ok-lexemes.ensures ∙ ap (map (lexeme_of c.args.text.now)) c.as_slice.ensures })
    c.in-Ok.ensures c.in-End.is)

pub made-requires-clause-short : goal.made-requires-clause-short
made-requires-clause-short c =
    let same : c.in_ok-source.source ≡ c.args.text.now = c.in_ok-source.ensures ∙ c.in_ok-valid.ensures.ok.1 in
    subst (λ t. length t ≤ 1048576) (sym same) c.in_ok-valid.ensures.ok.0.short

pub made-requires-clause-readable : goal.made-requires-clause-readable
made-requires-clause-readable c =
    let same : c.in_ok-source.source ≡ c.args.text.now = c.in_ok-source.ensures ∙ c.in_ok-valid.ensures.ok.1 in
    ap (λ t. (lexed t).tail) same ∙ ap (λ s. s.tail) (sym c.in_ok-scanned.ensures) ∙ c.in-End.is

pub made-requires-clause-read : goal.made-requires-clause-read
made-requires-clause-read c =
    let same : c.in_ok-source.source ≡ c.args.text.now = c.in_ok-source.ensures ∙ c.in_ok-valid.ensures.ok.1 in
    read_is c.in_ok-source.source c.as_slice-row.result.now (map item c.in-Ok.items) c.in-Ok.field-0-1
    (c.as_slice-row.ensures.value ∙ c.in_ok-lexemes.ensures ∙ ap (map (lexeme_of c.args.text.now)) (c.as_slice.ensures ∙ ap (λ s. s.tokens) c.in_ok-scanned.ensures) ∙ ap (λ t. map (lexeme_of t) (lexed t).tokens) (sym same))
    c.in-Ok.ensures

pub returns-in-Ok-clause-err : goal.returns-in-Ok-clause-err
returns-in-Ok-clause-err c =
    parse_bad c.args.text.now c.in_ok-scanned.scanned c.as_slice-row.result.now (map item c.in-Ok.items) c.in-Ok.field-0-1 c.in-Bad.fault c.in-Bad.at c.unreadable.result
    (record { text_is = c.in_ok-valid.ensures.ok.0; scanned = c.in_ok-scanned.ensures; lexemes_are = c.as_slice-row.ensures.value ∙ c.in_ok-lexemes.ensures ∙ ap (map (lexeme_of c.args.text.now)) c.as_slice.ensures })
    c.in-Ok.ensures c.in-Bad.is c.unreadable.ensures.place c.unreadable.ensures.kind

pub stuck-requires-clause-first : goal.stuck-requires-clause-first
stuck-requires-clause-first c =
    let ts = c.as_slice-row.result.now in
    halts ts c.in-Err-Stopped.fault c.in-Err-Stopped.token (subst (λ h. Fails h (whole (suc (length ts)) 100 (slice_get ts) 0)) c.in-Err-Stopped.field-0-is c.in-Err-Stopped.ensures)
