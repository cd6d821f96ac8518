-- `rounding::to_whole` meets its contract: its returns are the ways that the comparisons can go. Assumes nothing.
use mathlib.Core.Path.{ap}
use mathlib.Core.Bool.{not}
use borrow.Author.Rules.{rules}
use lib.Ieee.{of_bits}
use Rattle.reals.proofs.Beside.{way, large_stays, zero_stays, below_zero, above_zero, less_below, more_below, kept_below, more_above, less_above, kept_above}
use Rattle.reals.proofs.rounding.to_whole.Goals as goal

pub returns-then-not-size : goal.returns-then-not-size
unfolding of_bits
returns-then-not-size c = let entry = c.args in
    let size = c.size_of-size in
    large_stays (way entry.up) entry.x size.result size.ensures (search rules) (ap not c.if-not-size.true)

pub returns-then-up-near : goal.returns-then-up-near
unfolding of_bits
returns-then-up-near c = let entry = c.args in
    let size = c.size_of-size in
    above_zero (way entry.up) entry.x size.result size.ensures c.if-not-size.false _ c.if-x.true
    (λ p e. more_above size.result p entry.x e entry.up c.if-up-near.true)

pub returns-then-up-x : goal.returns-then-up-x
unfolding of_bits
returns-then-up-x c = let entry = c.args in
    let size = c.size_of-size in
    above_zero (way entry.up) entry.x size.result size.ensures c.if-not-size.false _ c.if-x.true
    (λ p e. less_above size.result p entry.x e entry.up c.if-up-x.true)

pub returns-then-x : goal.returns-then-x
unfolding of_bits
returns-then-x c = let entry = c.args in
    let size = c.size_of-size in
    above_zero (way entry.up) entry.x size.result size.ensures c.if-not-size.false _ c.if-x.true
    (λ p e. kept_above size.result p entry.x e entry.up c.if-up-near.false c.if-up-x.false)

pub returns-then-up-size : goal.returns-then-up-size
unfolding of_bits
returns-then-up-size c = let entry = c.args in
    let size = c.size_of-size in
    below_zero (way entry.up) entry.x size.result size.ensures c.if-not-size.false _ c.if-x-2.true
    (λ p. less_below size.result p entry.up c.if-up-size.true)

pub returns-then-up-near-2 : goal.returns-then-up-near-2
unfolding of_bits
returns-then-up-near-2 c = let entry = c.args in
    let size = c.size_of-size in
    below_zero (way entry.up) entry.x size.result size.ensures c.if-not-size.false _ c.if-x-2.true
    (λ p. more_below size.result p entry.up c.if-up-near-2.true)

pub returns-then-x-2 : goal.returns-then-x-2
unfolding of_bits
returns-then-x-2 c = let entry = c.args in
    let size = c.size_of-size in
    below_zero (way entry.up) entry.x size.result size.ensures c.if-not-size.false _ c.if-x-2.true
    (λ p. kept_below size.result p entry.up c.if-up-size.false c.if-up-near-2.false)

pub returns : goal.returns
unfolding of_bits
returns c = let entry = c.args in
    zero_stays (way entry.up) entry.x (search rules) c.if-x-2.false c.if-x.false
