use Rattle.std.proofs.Common.{◌∙◌, arith}
use Rattle.local_check.proofs.Placing.{few_present, put_all_placed, put_more}
use Rattle.local_check.proofs.Rooms.{put_next, put_room}
use Rattle.local_check.proofs.places.Places.put_all.Goals as goal

pub loop-part-preserved : goal.loop-part-preserved
loop-part-preserved c =
    let old = c.loop-part.self in
    let new = c.put.new.self in
    let items = c.in-Some.ensures.items in record {
      present
          = put_more old new c.loop-part.coming.items c.pop.new.self.items c.in-Some.part _ items c.put.ensures.slots
          c.loop-part.invariant.present;
      placed
          = put_all_placed old new c.loop-part.coming.items c.pop.new.self.items c.in-Some.part _ items c.put.ensures.slots
          c.put.ensures.count c.put.ensures.here c.put.ensures.elsewhere
          c.loop-part.invariant.present c.requires.different c.loop-part.invariant.placed;
      boxed
          = put_next old new c.loop-part.coming.items c.pop.new.self.items c.in-Some.part items c.put.ensures.slots c.put.ensures.boxes
          c.loop-part.invariant.boxed c.loop-part.invariant.room.boxes;
      room
          = put_room old new c.loop-part.coming.items c.pop.new.self.items c.in-Some.part items c.put.ensures.slots c.put.ensures.capacity
          c.put.ensures.same c.put.ensures.boxes
          c.loop-part.invariant.room;
      same = λ q. c.put.ensures.same q ∙ c.loop-part.invariant.same q;
      next = c.put.ensures.next ∙ c.loop-part.invariant.next;
    }

pub put-requires-clause-few : goal.put-requires-clause-few
put-requires-clause-few c
    = omega (arith, c.loop-part.invariant.placed.count, few_present c.loop-part.self.slots.items, c.loop-part.self.slots.ok.0)
