use Rattle.std.proofs.Common.{◌≡◌, ◌≤◌, ◌<◌, ◌+◌, length, ℕ, refl, sym, ap, ◌∙◌, subst, arith}
use Rattle.std.proofs.lemmas.List.{length_push}
use Rattle.std.proofs.lemmas.Option.{slice_get_read}
use Rattle.xt_search.specs.declared.graph.Kept.{Kept}
use Rattle.xt_search.specs.Graphs.{IsNext}
use Rattle.xt_search.proofs.Chaining.{distinct_more, table_more}
use Rattle.xt_search.proofs.Numbers.{at_kept, at_once, found_in, nexts_in, next_in, stays_in}
use Rattle.xt_search.proofs.Searching.{at_most, no_bar, room_for, same_room}
use Rattle.xt_search.proofs.seeking.next.Goals as goal

pub find-requires-clause-table : goal.find-requires-clause-table
find-requires-clause-table g c = c.requires.kept.table

pub find-requires-clause-digest : goal.find-requires-clause-digest
find-requires-clause-digest g c = c.digest-digest.ensures

pub add-requires-clause-many : goal.add-requires-clause-many
add-requires-clause-many g c = c.requires.kept.table.many

pub add-requires-clause-room : goal.add-requires-clause-room
add-requires-clause-room g c =
    let count : c.len-count.result ≡ length c.args.graph.now.kept.items = c.len-count.ensures ∙ c.args.graph.now.kept.ok.0 in
    room_for (g.M.Machine.IsMark c.args.machine.now) c.args.graph.now.table c.args.graph.now.kept.items c.args.most c.requires.kept.table (omega arith) (omega arith)

pub returns-in_default : goal.returns-in_default
returns-in_default g c =
    let old = c.args.graph.now in
    let here = slice_get_read old.kept.items (length old.kept.items) c.args.from c.index.result.now refl c.requires.from c.index.ensures in
    let h = c.requires.kept in
    record {
      grown = record {
        kept = record { graph = record { found = h.graph.found; nexts = h.graph.nexts; within = h.graph.within }; table = h.table; distinct = h.distinct };
        more = λ k w i. i;
        within = same_room (length old.kept.items) c.args.most;
        barred = (c.index.result.now.world, at_kept old.kept.items c.args.from c.index.result.now here, c.requires.core, rw c.in_default.is at c.in_ok-world.ensures.barred);
      };
      nexts = refl;
      free = tt;
      full = tt;
      leads = tt;
    }

pub returns-in-Some-find : goal.returns-in-Some-find
returns-in-Some-find g c =
    let old = c.args.graph.now in
    let ks = old.kept.items in
    let here = slice_get_read ks (length ks) c.args.from c.index.result.now refl c.requires.from c.index.ensures in
    record {
      grown = record {
        kept = c.requires.kept;
        more = λ k w i. i;
        within = same_room (length ks) c.args.most;
        barred = no_bar (g.M.Machine.bars c.args.machine.now) ks old.barred c.requires.free;
      };
      nexts = refl;
      free = c.requires.free;
      full = tt;
      leads = λ w there.
          let same : c.index.result.now.world ≡ w = at_once ks c.args.from c.index.result.now.world w (at_kept ks c.args.from c.index.result.now here) there in
          let l = subst (λ (v : g.row.M-World.Denot). g.M.Machine.Leads c.args.machine.now c.args.core v c.in-Some.world) same (rw c.in-Some.is at c.in_ok-world.ensures.leads) in
          let like = c.in-Some-find.ensures.like in
          (like.0, like.1, like.2 c.args.core w l);
    }

pub returns-then-count-most : goal.returns-then-count-most
returns-then-count-most g c =
    let old = c.args.graph.now in
    let count : c.len-count.result ≡ length old.kept.items = c.len-count.ensures ∙ old.kept.ok.0 in
    record {
      grown = record {
        kept = c.requires.kept;
        more = λ k w i. i;
        within = same_room (length old.kept.items) c.args.most;
        barred = no_bar (g.M.Machine.bars c.args.machine.now) old.kept.items old.barred c.requires.free;
      };
      nexts = refl;
      free = tt;
      full = at_most old.barred (c.args.most ≤ length old.kept.items) (omega arith);
      leads = tt;
    }

pub returns : goal.returns
returns g c =
    let W = g.row.M-World.Denot in
    let Leads = g.M.Machine.Leads c.args.machine.now in
    let old = c.args.graph.now in
    let ks = old.kept.items in
    let ns = old.nexts.items in
    let x : Kept W = record { world = c.in-Some.world; from = c.args.from; core = c.args.core } in
    let pushed = c.in_ok-push.ensures.items in
    let here = slice_get_read ks (length ks) c.args.from c.index.result.now refl c.requires.from c.index.ensures in
    let at = at_kept ks c.args.from c.index.result.now here in
    let long : length c.push.new.self.items ≡ length ks + 1 = ap length pushed ∙ length_push ks x in
    let w : length ns ≤ length ks = c.requires.kept.graph.within in
    let count : c.len-count.result ≡ length ks = c.len-count.ensures ∙ old.kept.ok.0 in
    let less : c.len-count.result < c.args.most = omega arith in
    record {
      grown = record {
        kept = record {
          graph = record {
            found = found_in Leads ks c.push.new.self.items x c.index.result.now.world pushed c.requires.kept.graph.found c.requires.from c.requires.core at (rw c.in-Some.is at c.in_ok-world.ensures.leads);
            nexts = nexts_in Leads ks c.push.new.self.items ns x pushed c.requires.kept.graph.within c.requires.kept.graph.nexts;
            within = omega arith;
          };
          table = table_more (g.M.Machine.IsMark c.args.machine.now) old.table c.add.new.self ks c.push.new.self.items x c.digest-digest.result c.requires.kept.table
              c.in_ok-add.ensures.many c.in_ok-add.ensures.chained c.digest-digest.ensures pushed;
          distinct = distinct_more (g.M.Machine.Same c.args.machine.now) ks c.push.new.self.items x c.requires.kept.distinct c.in_default-find.ensures.new pushed;
        };
        more = stays_in ks c.push.new.self.items x pushed;
        within = omega arith;
        barred = no_bar (g.M.Machine.bars c.args.machine.now) c.push.new.self.items old.barred c.requires.free;
      };
      nexts = refl;
      free = c.requires.free;
      full = tt;
      leads = λ v there.
          let same : c.index.result.now.world ≡ v = at_once ks c.args.from c.index.result.now.world v at there in
          let l = subst (λ (u : W). Leads c.args.core u c.in-Some.world) same (rw c.in-Some.is at c.in_ok-world.ensures.leads) in
          let n = next_in Leads ks c.push.new.self.items x v pushed l in
          subst (λ (k : ℕ). IsNext Leads c.push.new.self.items c.args.core v k) (sym count) n;
    }
