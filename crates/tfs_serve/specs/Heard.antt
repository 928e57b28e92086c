-- The events that a gate has recorded.
use Rattle.std.specs.Prelude.{List, map}
use Rattle.tfs_calls.specs.Reply.{reply_value}
use Rattle.tfs_serve.specs.Gate.{Event, asked, before, after}
use Rattle.tfs_serve.specs.declared.heard.Heard.{Heard}
use Rattle.tfs_serve.specs.declared.heard.HeardEvent.{HeardEvent}
use Rattle.tfs_serve.specs.declared.heard.HeardEvent.TheVariants.{Asked, Before, After}

-- A recorded event. Of a reply, it has the plain value.
abbrev pub event_of : HeardEvent → Event
event_of (Asked admits) = asked admits
event_of (Before call) = before call.value
event_of (After reply) = after (reply_value reply.value)

-- The recorded events, in order.
abbrev pub events_of : Heard → List Event
events_of heard = map event_of heard.events
