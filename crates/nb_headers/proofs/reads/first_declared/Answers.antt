use Rattle.std.proofs.Common.{◌∙◌, sym, rules, lit<}
use Rattle.std.specs.Prelude.{Some, None}
use Rattle.std.proofs.lemmas.Str.Pattern.{split_once_first}
use Rattle.nb_headers.proofs.Entries.{first_found, first_passed, last_entry}
use Rattle.nb_headers.proofs.reads.first_declared.Goals as goal

pub returns-in-Some-place_of : goal.returns-in-Some-place_of
returns-in-Some-place_of c =
    let cut = split_once_first 59 c.loop-entry.rest.now (Some (c.in-Some.entry, c.in-Some.more)) c.in-Some.ensures.cases (lit< tt) in
    sym (first_found c.args.declared.now c.loop-entry.rest.now c.in-Some.entry.now c.in-Some.more.now _ cut (sym c.in-Some-place_of.ensures)) ∙ c.loop-entry.invariant.1

pub loop-entry-preserved : goal.loop-entry-preserved
loop-entry-preserved c =
    let cut = split_once_first 59 c.loop-entry.rest.now (Some (c.in-Some.entry, c.in-Some.more)) c.in-Some.ensures.cases (lit< tt) in
    (search rules, sym (first_passed c.args.declared.now c.loop-entry.rest.now c.in-Some.entry.now c.in-Some.more.now cut (sym c.in_default-place_of.ensures)) ∙ c.loop-entry.invariant.1)

pub returns : goal.returns
returns c =
    let all = split_once_first 59 c.loop-entry.rest.now None c.in_default.ensures.cases (lit< tt) in
    c.place_of-2.ensures ∙ sym (last_entry c.args.declared.now c.loop-entry.rest.now all) ∙ c.loop-entry.invariant.1
