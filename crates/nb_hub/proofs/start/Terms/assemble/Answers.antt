use Rattle.std.proofs.Common.{◌∙◌, ap}
use Rattle.nb_hub.proofs.Starts.{kept_at_start}
use Rattle.nb_hub.proofs.start.Terms.assemble.Goals as goal

pub invariant_of-result-2 : goal.invariant_of-result-2
invariant_of-result-2 g c =
    kept_at_start (g.M.Handling.meaning c.args.self.handlers) c.args.self.settings c.args.self.turns c.args.self.workers c.args.self.moment c.new.result c.args.opened.tables c.args.opened.store.tables c.args.copies.state c.args.post.queues
    c.new-2.result c.new-3.result c.new-4.result c.new-5.result.items c.faults-base_faults.result (g.D.Cells.count c.args.opened.store.base) c.faults-post_faults.result (g.P.Cells.count c.args.post.cells) c.args.copies.own c.args.copies.ready
    c.new.ensures c.requires.tables c.requires.state c.new-2.ensures c.new-3.ensures c.new-4.ensures c.new-5.ensures.items (c.faults-base_faults.ensures ∙ ap g.D.Cells.count c.base.ensures) (c.faults-post_faults.ensures ∙ ap g.P.Cells.count c.cells.ensures)
    c.is_meaning.ensures c.requires.routes c.commits-sound_tables.ensures.sound c.next-sound_post.ensures.sound c.requires.fit c.requires.own c.requires.free
