use Rattle.nb_check.proofs.incoming.address_of.Goals as goal

pub returns : goal.returns
returns c = rw (c.header.ensures.value, c.header-2.ensures.value) at c.address_by.ensures
