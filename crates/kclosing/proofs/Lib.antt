pub mod LongInputs
