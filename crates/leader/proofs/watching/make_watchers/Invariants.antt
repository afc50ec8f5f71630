use Rattle.std.proofs.Common.{◌≡◌, ◌≤◌, length, vec_capacity}
use Rattle.leader.proofs.watching.make_watchers.Given as goal

-- each watch so far has a watcher, and there is room for all; what is left of the loader is as it was, and so is the line
abbrev pub invariant-loop-watch : goal.invariant-loop-watch
invariant-loop-watch g l = record {
  can_next : (goal.iterator-loop-watch g).can_next l.watch-iterator;
  is_finite : (goal.iterator-loop-watch g).is_finite l.watch-iterator;
  count : length l.all.items ≡ length l.yielded;
  fits : length l.fn.watches.items ≤ vec_capacity l.all;
  loader : l.loader ≡ l.fn.loader;
  line : l.line ≡ l.fn.line;
}
