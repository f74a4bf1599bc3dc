-- The memory that C owns with a handle: nothing, or a responder on the heap with the right to free it.
use Rattle.std.specs.Prelude.{Option, Some, None}
use base.Fml.{Fml, ftrue}
use denote.RawPtr.{Ptr}
use Rattle.std.specs.Box.Ownership.{box_owns}
use Rattle.std.specs.Coded.{Coded, coded_option}
use Rattle.std.specs.declared.alloc.Global.{Global}
use Rattle.std.specs.contracts.impls.GlobalAllocator.TheImpl.{ghosts}
use Rattle.sql_tool_session.specs.contracts.responder.Responder.{the_row}

-- the allocator, of which there is one
abbrev pub allocator : Global
allocator = record { memory = record { seal = tt } }

abbrev pub kept_at : Option the_row.Denot → Ptr → Fml
kept_at None at = ftrue
kept_at (Some responder) at = box_owns (ghosts.dealloc_token allocator) the_row at responder

-- how the logic stores what is kept
abbrev pub kept_coded : Coded (Option the_row.Denot)
kept_coded = coded_option the_row.coded
