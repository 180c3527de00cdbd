use Rattle.affine_index.proofs.ArithmeticLaws.{product-room, second-room}
use Rattle.rules_shape_tensor.proofs.PlaceForms.{total_room}
use Rattle.rules_shape_tensor.proofs.places.place.Goals as goal

pub product-requires-clause-room : goal.product-requires-clause-room
product-requires-clause-room c =
    product-room c.args.a.now c.args.m.now c.in_ok-first.first c.in_ok-second.second (c.in_ok-first.ensures.same)
    (c.in_ok-second.ensures.same) c.copied.ensures.normal c.copied-2.ensures.normal

pub product-requires-clause-second : goal.product-requires-clause-second
product-requires-clause-second c =
    second-room c.args.m.now c.in_ok-second.second (c.in_ok-second.ensures.same) c.copied-2.ensures.normal

pub sum-requires : goal.sum-requires
sum-requires c =
    total_room c.args.a.now c.args.m.now c.copied.ensures.normal c.copied-2.ensures.normal c.args.b.now c.in_ok-first.first c.in_ok-second.second
    c.in_ok-rows.rows c.in_ok-rest.rest c.copied-3.ensures.normal (c.in_ok-first.ensures.same) (c.in_ok-second.ensures.same)
    (c.in_ok-rows.ensures {u = tt}) (c.in_ok-rest.ensures.same)
