-- `exchange::answers` meets its contract. The loop's invariant: both boxes are on their course, after the rounds heard.
use mathlib.Core.Path.{◌≡◌}
use lib.ListN.{length}
use Rattle.exchange.specs.Boxes.{after}
use Rattle.exchange.proofs.Course.{Course}
use Rattle.exchange.proofs.answers.Given as goal

abbrev pub invariant-loop-heard : goal.invariant-loop-heard
invariant-loop-heard l = record {
  box1 : Course l.initial.s1 l.first l.t1 l.heard (λ i. (after l.initial.s1 l.initial.s2 l.t1 l.t2 l.initial.w1 l.initial.w2 i l.heard).own) l.s1 l.w1;
  box2 : Course l.initial.s2 l.first l.t2 l.heard (λ i. (after l.initial.s1 l.initial.s2 l.t1 l.t2 l.initial.w1 l.initial.w2 i l.heard).others) l.s2 l.w2;
  same_w1 : length l.w1 ≡ length l.initial.w1;
  same_w2 : length l.w2 ≡ length l.initial.w2;
  same_o1 : length l.o1 ≡ length l.initial.o1;
  same_o2 : length l.o2 ≡ length l.initial.o2;
}
