-- From the definitions of model to the statements of specs/.

-- from the calls' buffers to the world; a call that takes a step first
pub mod Orientation
pub mod HiddenSteps
-- demand 1, call by call, and from it what a refusal keeps
pub mod Demand1Tests
pub mod Demand1Chains
pub mod Demand1Reads
pub mod Demand1Calls
pub mod Demand1Lists
pub mod Growth
pub mod Demand1Steps
pub mod Refusals
-- the plain map, and a store that agrees with the ideal, call by call
pub mod PlainMaps
pub mod IdealSteps
pub mod Agreement
pub mod Fingerprints
pub mod KeyedSteps
pub mod TableSteps
pub mod MovedKeys
pub mod RehashSteps
pub mod SteppedKeys
pub mod GrownKeys
-- the walk call, the call that iterates, and the pairs of a store
pub mod LiveTables
pub mod GroupPlaces
pub mod BucketEntries
pub mod GroupEntries
pub mod WalkCalls
pub mod PassCalls
pub mod Contents
-- the ideal's tables and places, with calls on keys
pub mod KeyTables
pub mod KeyPlaces
-- all calls: demand 1, lengths, legal tables
pub mod Demand1
pub mod Lengths
pub mod LegalTables
-- walks
pub mod Counts
pub mod Trails
pub mod Walks
pub mod HandOuts
-- passes, while safe iterators hold up the rehash
pub mod PausedPlaces
pub mod PassMoments
-- sequences, demands 2 and 3, and what follows from demand 3
pub mod Histories
pub mod Demand2
pub mod Demand3
pub mod ExactlyOnce
pub mod SafeIterators
pub mod CalledBuckets
pub mod IdealCalls
pub mod RehashesEnd
pub mod Tally
pub mod NeverDamaged
