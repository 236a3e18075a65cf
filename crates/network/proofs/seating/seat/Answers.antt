use Rattle.std.proofs.Common.{arith, length, refl, ap}
use Rattle.network.proofs.Common.{slice_get_read, numbers_of, room_of}
use Rattle.network.proofs.Lists.{counts_in, same_room}
use Rattle.network.proofs.seating.seat.Goals as goal

pub index_mut-requires : goal.index_mut-requires
index_mut-requires c = omega (arith, c.requires.project, c.args.kept.now.seated.ok.0)

pub put_in-requires : goal.put_in-requires
put_in-requires c =
    let L = c.args.kept.now.seated.items in
    let at = slice_get_read L (length L) c.args.project c.index_mut.result.now refl c.requires.project c.index_mut.ensures.value in
    let long = ap (λ z. length (numbers_of z)) at in
    record { room = omega (arith, long, ap room_of at, c.requires.room) }

pub returns-clause-counts : goal.returns-clause-counts
returns-clause-counts c =
    counts_in c.args.kept.now.seated.items c.args.project c.args.student c.put_in.new.list c.index_mut.result.now
    (slice_get_read _ _ c.args.project c.index_mut.result.now refl c.requires.project c.index_mut.ensures.value) c.put_in.ensures.counts

pub returns-clause-rest : goal.returns-clause-rest
returns-clause-rest c =
    same_room c.args.kept.now _ c.args.project c.put_in.new.list c.index_mut.result.now refl
    (slice_get_read _ _ c.args.project c.index_mut.result.now refl c.requires.project c.index_mut.ensures.value) c.put_in.ensures.capacity
