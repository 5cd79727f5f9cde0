-- A saga's head, as it is in memory.
use Rattle.nb_script.specs.declared.items.Head.{Head as HeadTree}
use Rattle.nb_script.specs.ReadingScript.{Head}

abbrev pub head_of : HeadTree → Head
head_of h = record { at = h.at; name = (h.name_at, h.name); revision = h.revision; on_at = h.on_at; correlation = h.correlation; open_at = h.open_at; fields_at = h.fields_at; fields_open_at = h.fields_open_at }
