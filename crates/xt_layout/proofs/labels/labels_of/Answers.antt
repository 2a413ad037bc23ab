use Rattle.std.proofs.Common.{◌<◌, ◌≤◌, ◌^◌, length, arith}
use Rattle.std.specs.List.{flat_map}
use Rattle.xt_layout.specs.Around.{each}
use Rattle.xt_layout.specs.Addresses.{label_name, labels_at, literal_name}
use Rattle.xt_layout.proofs.Each.{joins_all, joins_more, joins_none}
use Rattle.xt_layout.proofs.Labelling.{home_small, more_fit, names_here, none_fit, spots_long}
use Rattle.xt_layout.proofs.labels.labels_of.Goals as goal

pub bounds-spots-k : goal.bounds-spots-k
bounds-spots-k c = omega (arith, spots_long c.args.words.now c.args.lines.now c.args.spots.now c.requires.spots)

pub add_names-requires-clause-home : goal.add_names-requires-clause-home
add_names-requires-clause-home c =
    let lt : c.loop-k.k < length c.args.spots.now = omega (arith, spots_long c.args.words.now c.args.lines.now c.args.spots.now c.requires.spots) in
    home_small c.loop-k.k c.address.result c.args.words.now c.args.addresses.now _ c.requires.small (c.address.ensures.below (2 ^ 34) (c.requires.below c.loop-k.k _ lt)) (c.requires.homes c.loop-k.k c.loop-k-test.true)

pub loop-k-init : goal.loop-k-init
loop-k-init c = record {
  joined = joins_none (labels_at c.args.words.now c.args.addresses.now) c.new-labels.result.items c.args.lines.now c.new-labels.ensures.items;
  fit = none_fit c.new-labels.result.items c.new-labels.ensures.items;
}

pub loop-k-preserved : goal.loop-k-preserved
loop-k-preserved c =
    let lt : c.loop-k.k < length c.args.spots.now = omega (arith, spots_long c.args.words.now c.args.lines.now c.args.spots.now c.requires.spots) in
    let below : c.address.result ≤ 2 ^ 34 = c.address.ensures.below (2 ^ 34) (c.requires.below c.loop-k.k _ lt) in
    record {
      joined = joins_more (labels_at c.args.words.now c.args.addresses.now) c.loop-k.labels.items c.add_names.new.labels.items c.loop-k.k c.args.lines.now c.index-lines-k.result
          (flat_map (λ labels. labels) (each (labels_at c.args.words.now c.args.addresses.now) c.args.lines.now)) c.loop-k-test.true c.index-lines-k.is c.loop-k.invariant.joined
          (names_here c.args.words.now c.args.addresses.now c.args.lines.now c.args.spots.now c.loop-k.k c.index-lines-k.result _ c.address.result _ c.loop-k.labels.items c.add_names.new.labels.items
          c.requires.spots c.loop-k-test.true c.index-lines-k.is c.address.ensures.value (c.requires.homes c.loop-k.k c.loop-k-test.true) c.in_ok-add_names.ensures);
      fit = more_fit c.loop-k.labels.items c.add_names.new.labels.items c.address.result _ (label_name c.index-lines-k.result.label) (literal_name c.index-lines-k.result.statement) c.loop-k.invariant.fit below
          (home_small c.loop-k.k c.address.result c.args.words.now c.args.addresses.now _ c.requires.small below (c.requires.homes c.loop-k.k c.loop-k-test.true)) c.in_ok-add_names.ensures;
    }

pub returns : goal.returns
returns c = record {
  labels = joins_all (labels_at c.args.words.now c.args.addresses.now) c.loop-k.labels.items c.loop-k.k c.args.lines.now (flat_map (λ labels. labels) (each (labels_at c.args.words.now c.args.addresses.now) c.args.lines.now)) c.loop-k-test.false c.loop-k.invariant.joined;
  fit = c.loop-k.invariant.fit;
}
