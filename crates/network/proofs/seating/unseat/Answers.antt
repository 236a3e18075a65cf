use Rattle.std.proofs.Common.{arith, ◌≡◌, length, Some, slice_get, refl, ap}
use Rattle.network.proofs.Common.{slice_get_read, count_of, numbers_of}
use Rattle.network.proofs.Lists.{all_shorter, counts_out, same_room}
use Rattle.network.proofs.seating.unseat.Goals as goal

pub returns-clause-shorter : goal.returns-clause-shorter
returns-clause-shorter c =
    let L = c.args.kept.now.seated.items in
    let at : slice_get L c.args.project ≡ Some c.index_mut.result.now = slice_get_read L (length L) c.args.project c.index_mut.result.now refl c.requires.project c.index_mut.ensures.value in
    all_shorter L c.args.project c.take_out.new.list c.index_mut.result.now at c.take_out.ensures.shorter

pub index_mut-requires : goal.index_mut-requires
index_mut-requires c = omega (arith, c.requires.project, c.args.kept.now.seated.ok.0)

pub take_out-requires : goal.take_out-requires
take_out-requires c =
    let L = c.args.kept.now.seated.items in
    let count = ap (λ z. count_of (numbers_of z) c.args.student) (slice_get_read L (length L) c.args.project c.index_mut.result.now refl c.requires.project c.index_mut.ensures.value) in
    omega (arith, count, c.requires.there)

pub returns-clause-counts : goal.returns-clause-counts
returns-clause-counts c =
    counts_out c.args.kept.now.seated.items c.args.project c.args.student c.take_out.new.list c.index_mut.result.now
    (slice_get_read _ _ c.args.project c.index_mut.result.now refl c.requires.project c.index_mut.ensures.value) c.take_out.ensures.counts

pub returns-clause-rest : goal.returns-clause-rest
returns-clause-rest c =
    same_room c.args.kept.now _ c.args.project c.take_out.new.list c.index_mut.result.now refl
    (slice_get_read _ _ c.args.project c.index_mut.result.now refl c.requires.project c.index_mut.ensures.value) c.take_out.ensures.capacity
