-- What an answer says a line of an assignment text is.
use Rattle.layout.specs.AssignmentText as text
use Rattle.entries.specs.declared.Entry.{Entry}

abbrev pub entry_says : Entry → text.Entry
entry_says (Entry.Problem nodes arcs) = text.problem nodes arcs
entry_says (Entry.Source node) = text.source node
entry_says (Entry.Arc source target cost) = text.arc source target cost
