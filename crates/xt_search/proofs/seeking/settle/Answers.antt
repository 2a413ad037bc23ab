use Rattle.std.proofs.Common.{◌≡◌, ◌<◌, ◌+◌, length, ℕ, sym, ap, ◌∙◌, subst, arith}
use Rattle.std.proofs.lemmas.List.{length_push}
use Rattle.xt_search.specs.declared.graph.Nexts.{Nexts}
use Rattle.xt_search.specs.Graphs.{IsAt}
use Rattle.xt_search.proofs.Endings.{more_within, next_stays}
use Rattle.xt_search.proofs.Numbers.{more_nexts_in}
use Rattle.xt_search.proofs.Searching.{more_room}
use Rattle.xt_search.proofs.seeking.settle.Goals as goal

pub next-requires : goal.next-requires
next-requires g c =
    let e : c.len-from.result ≡ length c.args.graph.now.nexts.items = cc in
    let h : length c.args.graph.now.nexts.items < length c.args.graph.now.kept.items = c.requires.left in
    record { kept = c.requires.kept; from = omega arith; core = omega arith; free = c.requires.free }

pub next-requires-2 : goal.next-requires-2
next-requires-2 g c =
    let e : c.len-from.result ≡ length c.args.graph.now.nexts.items = cc in
    let h : length c.args.graph.now.nexts.items < length c.args.graph.now.kept.items = c.requires.left in
    let led = rw c.in-Some.is at c.in_ok-number.ensures in
    record {
      kept = led.grown.kept;
      from = more_within c.args.graph.now c.next.new.graph c.len-from.result led.grown.more (omega arith);
      core = omega arith;
      free = led.free;
    }

pub returns-in-None : goal.returns-in-None
returns-in-None g c =
    let led = rw c.in-None.is at c.in_ok-number.ensures in
    record { grown = led.grown; free = λ t. absurd cc; full = λ f. led.full; one = λ t. absurd cc }

pub returns-in-None-2 : goal.returns-in-None-2
returns-in-None-2 g c =
    let one = rw c.in-Some.is at c.in_ok-number.ensures in
    let two = rw c.in-None-2.is at c.in_ok-number-2.ensures in
    let old = c.args.graph.now in
    let mid = c.next.new.graph in
    let new = c.next-2.new.graph in
    record {
      grown = record {
        kept = two.grown.kept;
        more = λ k w i. two.grown.more k w (one.grown.more k w i);
        within = more_room (length old.kept.items) (length mid.kept.items) (length new.kept.items) c.args.most one.grown.within two.grown.within;
        barred = two.grown.barred;
      };
      free = λ t. absurd cc;
      full = λ f. two.full;
      one = λ t. absurd cc;
    }

pub returns : goal.returns
returns g c =
    let Leads = g.M.Machine.Leads c.args.machine.now in
    let from = c.len-from.result in
    let old = c.args.graph.now in
    let mid = c.next.new.graph in
    let new = c.next-2.new.graph in
    let one = rw c.in-Some.is at c.in_ok-number.ensures in
    let two = rw c.in-Some-2.is at c.in_ok-number-2.ensures in
    let m : Nexts = record { by0 = c.in-Some.number; by1 = c.in-Some-2.number } in
    let is_from : from ≡ length old.nexts.items = cc in
    let left : length old.nexts.items < length old.kept.items = c.requires.left in
    let h0 : from < length old.kept.items = omega arith in
    let h1 : from < length mid.kept.items = more_within old mid from one.grown.more h0 in
    let h2 : from < length new.kept.items = more_within mid new from two.grown.more h1 in
    let same = two.nexts ∙ one.nexts in
    let long : length new.nexts.items ≡ from = ap length same ∙ sym is_from in
    let pushed : length c.push.new.self.items ≡ length new.nexts.items + 1 = ap length c.in_ok-push.ensures.items ∙ length_push new.nexts.items m in
    record {
      grown = record {
        kept = record {
          graph = record {
            found = two.grown.kept.graph.found;
            nexts = more_nexts_in Leads new.kept.items new.nexts.items c.push.new.self.items m c.in_ok-push.ensures.items two.grown.kept.graph.nexts
                (λ w here.
                let there = subst (λ (k : ℕ). IsAt new.kept.items k w) long here in (
                  next_stays Leads old mid new from 0 m.by0 w h0 one.grown.more two.grown.more one.leads there,
                  next_stays Leads mid new new from 1 m.by1 w h1 two.grown.more (λ k v i. i) two.leads there,
                ));
            within = omega arith;
          };
          table = two.grown.kept.table;
          distinct = two.grown.kept.distinct;
        };
        more = λ k w i. two.grown.more k w (one.grown.more k w i);
        within = more_room (length old.kept.items) (length mid.kept.items) (length new.kept.items) c.args.most one.grown.within two.grown.within;
        barred = two.grown.barred;
      };
      free = λ t. two.free;
      full = λ f. absurd cc;
      one = λ t. omega arith;
    }
