use Rattle.std.proofs.Common.{drop, map, take}
use Rattle.std.specs.Prelude.{string_bytes}
use Rattle.given_text.proofs.WholeLaws.{first, found, only, refused, same_names}
use Rattle.given_text.proofs.reader.read_given.Goals as goal

pub returns-clause-found : goal.returns-clause-found
returns-clause-found c =
    let ss = map string_bytes (take c.args.sizes c.args.names.now) in
    let is = map string_bytes (drop c.args.sizes c.args.names.now) in
    let told = same_names (map string_bytes c.split.result.0.now) ss (map string_bytes c.split.result.1.now) is c.args.text.now c.bytes_given.result
    c.split.ensures.first c.split.ensures.others c.bytes_given.ensures in
    found ss is c.args.text.now c.bytes_given.result told

pub returns-clause-only : goal.returns-clause-only
returns-clause-only c =
    let ss = map string_bytes (take c.args.sizes c.args.names.now) in
    let is = map string_bytes (drop c.args.sizes c.args.names.now) in
    let told = same_names (map string_bytes c.split.result.0.now) ss (map string_bytes c.split.result.1.now) is c.args.text.now c.bytes_given.result
    c.split.ensures.first c.split.ensures.others c.bytes_given.ensures in
    λ g of. only ss is c.args.text.now c.bytes_given.result g told of

pub returns-clause-refused : goal.returns-clause-refused
returns-clause-refused c =
    let ss = map string_bytes (take c.args.sizes c.args.names.now) in
    let is = map string_bytes (drop c.args.sizes c.args.names.now) in
    let told = same_names (map string_bytes c.split.result.0.now) ss (map string_bytes c.split.result.1.now) is c.args.text.now c.bytes_given.result
    c.split.ensures.first c.split.ensures.others c.bytes_given.ensures in
    refused ss is c.args.text.now c.bytes_given.result told

pub returns-clause-first : goal.returns-clause-first
returns-clause-first c =
    let ss = map string_bytes (take c.args.sizes c.args.names.now) in
    let is = map string_bytes (drop c.args.sizes c.args.names.now) in
    let told = same_names (map string_bytes c.split.result.0.now) ss (map string_bytes c.split.result.1.now) is c.args.text.now c.bytes_given.result
    c.split.ensures.first c.split.ensures.others c.bytes_given.ensures in
    first ss is c.args.text.now c.bytes_given.result told

pub returns-clause-exact : goal.returns-clause-exact
returns-clause-exact c =
    let ss = map string_bytes (take c.args.sizes c.args.names.now) in
    let is = map string_bytes (drop c.args.sizes c.args.names.now) in
    let told = same_names (map string_bytes c.split.result.0.now) ss (map string_bytes c.split.result.1.now) is c.args.text.now c.bytes_given.result
    c.split.ensures.first c.split.ensures.others c.bytes_given.ensures in
    told
