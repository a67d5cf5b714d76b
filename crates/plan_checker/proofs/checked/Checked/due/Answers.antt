use Rattle.std.proofs.Common.{◌≤◌, arith}
use Rattle.plan_checker.proofs.Due.{due_count, due_number, product_small, quotient_grows_little}
use Rattle.plan_checker.proofs.Places.{few_samples_of_block, rate_of, some_frames_of_block}
use Rattle.plan_checker.proofs.checked.Checked.due.Goals as goal

pub overflow_mul-result : goal.overflow_mul-result
overflow_mul-result c =
    let rate = rate_of c.self.inside.plan c.args.self.now c.self.view_is c.self.invariant c.args.c _ c.requires.carrier c.at-carrier.ensures in
    let some : 1 ≤ c.from-k.result = (let k = some_frames_of_block c.at-carrier.result.now rate in omega arith) in
    let small : c.from-s.result ≤ 3_072 = (let s = few_samples_of_block c.at-carrier.result.now rate in omega arith) in
    omega (arith, product_small c.args.n c.from-s.result c.requires.tick small)

pub nonzero_div-result : goal.nonzero_div-result
nonzero_div-result c =
    let rate = rate_of c.self.inside.plan c.args.self.now c.self.view_is c.self.invariant c.args.c _ c.requires.carrier c.at-carrier.ensures in
    let some : 1 ≤ c.from-k.result = (let k = some_frames_of_block c.at-carrier.result.now rate in omega arith) in
    let small : c.from-s.result ≤ 3_072 = (let s = few_samples_of_block c.at-carrier.result.now rate in omega arith) in
    some

pub overflow_mul-result-2 : goal.overflow_mul-result-2
overflow_mul-result-2 c =
    let rate = rate_of c.self.inside.plan c.args.self.now c.self.view_is c.self.invariant c.args.c _ c.requires.carrier c.at-carrier.ensures in
    let some : 1 ≤ c.from-k.result = (let k = some_frames_of_block c.at-carrier.result.now rate in omega arith) in
    let small : c.from-s.result ≤ 3_072 = (let s = few_samples_of_block c.at-carrier.result.now rate in omega arith) in
    omega (arith, product_small c.args.n c.from-s.result c.requires.tick small)

pub nonzero_div-result-2 : goal.nonzero_div-result-2
nonzero_div-result-2 c =
    let rate = rate_of c.self.inside.plan c.args.self.now c.self.view_is c.self.invariant c.args.c _ c.requires.carrier c.at-carrier.ensures in
    let some : 1 ≤ c.from-k.result = (let k = some_frames_of_block c.at-carrier.result.now rate in omega arith) in
    let small : c.from-s.result ≤ 3_072 = (let s = few_samples_of_block c.at-carrier.result.now rate in omega arith) in
    some

pub overflow_cast-result : goal.overflow_cast-result
overflow_cast-result c =
    let rate = rate_of c.self.inside.plan c.args.self.now c.self.view_is c.self.invariant c.args.c _ c.requires.carrier c.at-carrier.ensures in
    let some : 1 ≤ c.from-k.result = (let k = some_frames_of_block c.at-carrier.result.now rate in omega arith) in
    let small : c.from-s.result ≤ 3_072 = (let s = few_samples_of_block c.at-carrier.result.now rate in omega arith) in
    omega (arith, quotient_grows_little c.args.n c.from-s.result c.from-k.result some)

pub returns-clause-value : goal.returns-clause-value
returns-clause-value c =
    due_number c.self.inside.plan c.args.self.now c.self.view_is c.args.c c.args.n c.from-s.result c.from-k.result _ c.at-carrier.ensures c.from-s.ensures c.from-k.ensures

pub returns-clause-count : goal.returns-clause-count
returns-clause-count c =
    let rate = rate_of c.self.inside.plan c.args.self.now c.self.view_is c.self.invariant c.args.c _ c.requires.carrier c.at-carrier.ensures in
    let some : 1 ≤ c.from-k.result = (let k = some_frames_of_block c.at-carrier.result.now rate in omega arith) in
    let small : c.from-s.result ≤ 3_072 = (let s = few_samples_of_block c.at-carrier.result.now rate in omega arith) in
    due_count c.self.inside.plan c.args.self.now c.self.view_is c.args.c c.args.n c.from-s.result c.from-k.result _ c.at-carrier.ensures c.from-s.ensures c.from-k.ensures some
